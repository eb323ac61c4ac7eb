-- a turn by the structs that hold what it reads
use Rattle.std.specs.Prelude.{List, ℕ}
use Rattle.forming.specs.declared.columns.ModelWords.{ModelWords}
use Rattle.dependencies.specs.declared.prepared.PreparedClaim.{PreparedClaim}
use Rattle.blocks.specs.Turn.{Turned}

abbrev pub TurnedIn : PreparedClaim → ModelWords → List ℕ → ℕ → List ℕ → List ℕ → List ℕ → List ℕ → Type 0
TurnedIn p m bs e ws qs vs rs = Turned p.claim.kinds.now p.claim.a.now p.claim.b.now m.masks.now m.rows.now m.size p.users.now bs e ws qs vs rs

-- the same by the structs that hold what is read
use Rattle.std.specs.Prelude.{List, ℕ}
use Rattle.forming.specs.declared.columns.ClaimColumns.{ClaimColumns}
use Rattle.forming.specs.declared.columns.ModelWords.{ModelWords}
use Rattle.settling.specs.Evaluated.{Known, Standing, Evaluated}

abbrev pub KnownIn : ClaimColumns → List ℕ → ℕ → Type 0
KnownIn c ds e = Known c.kinds.now c.a.now c.b.now ds e

abbrev pub StandingIn : ClaimColumns → ModelWords → List ℕ → List ℕ → Type 0
StandingIn c m ws ds = Standing c.kinds.now c.a.now c.b.now m.masks.now m.rows.now m.size ws ds

abbrev pub EvaluatedIn : ClaimColumns → ModelWords → ℕ → List ℕ → List ℕ → List ℕ → Type 0
EvaluatedIn c m e ds vs es = Evaluated c.kinds.now c.a.now c.b.now m.masks.now m.rows.now m.size e ds vs es

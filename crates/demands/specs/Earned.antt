-- the refusal that a claim and a proof earn: its condition at its place, and nothing that comes before it in the order
use Rattle.std.specs.Prelude.{List, ℕ}
use Rattle.formula.specs.Claim.{Derivation}
use Rattle.calculus.specs.Faults.{Earns}
use Rattle.reader.specs.Files.{Files}
use Rattle.reader.specs.WellFormed.{WellFormed, IllFormed}

pub data Earned (claim proof : List ℕ) (n q : ℕ) : Type 0 where
  -- 10 to 14: the claim by bytes; 20 and 71 over all entries; 21, 22, 23 entry by entry; 30 to 34: then the proof by bytes
  by_files : IllFormed claim proof n q → Earned claim proof n q
  -- 35 by rising parent, first child before second, then by rising orphan; 36; 37 or 38 by rising node; 39 by rising leaf
  by_rules : (f : Files Derivation) → WellFormed claim proof f → Earns f.claim f.beside n q → Earned claim proof n q

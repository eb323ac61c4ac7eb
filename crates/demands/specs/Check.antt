-- the verdict on two byte lists: the first fault in document 01's order, or acceptance
use Rattle.std.specs.Prelude.{List, ℕ}
use Rattle.verdict.specs.Verdict as verdicts
use Rattle.verdict.specs.Verdict.{Verdict}
use Rattle.encoding.specs.File.{Reading, refused, good}
use Rattle.formula.specs.Claim.{Derivation}
use Rattle.calculus.specs.Judge.{judge}
use Rattle.reader.specs.Files.{Files, files}

-- 10 to 34 stand; past them 35 to 39 or acceptance
abbrev pub answer : Reading (Files Derivation) → Verdict
answer (refused n q) = verdicts.refused n q
answer (good f) = judge f.claim f.beside

unfoldable pub verdict : List ℕ → List ℕ → Verdict
unfolding files judge
verdict claim proof = answer (files claim proof)

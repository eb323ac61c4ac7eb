-- The count is judged before the codes.
use native.Mathlib.Omega.{arith}
use Rattle.std.specs.Prelude.{Ok}
use mathlib.Core.Path.{◌≡◌}
use mathlib.Core.List.{List}
use Prim.Native.Nat.{ℕ, ◌+◌, ◌<◌}
use lib.ListN.{length, get_or, drop}
use Rattle.verdict.specs.Tells.{fails_holds}
use Rattle.formula.specs.Table.{Table}
use Rattle.encoding.specs.Encode.{Counts}
use Rattle.encoding.specs.Parse.{fault}
use Rattle.encoding.specs.ListLaws.{range_tells}
use Rattle.proof_files.specs.ReadProof.{sequent}
use Rattle.proof_files.specs.ProofParts.{kind_table, codes_of}
use Rattle.proofs.specs.ProofSteps.{Step, Finds, finds_as}
use Rattle.proofs.specs.ProofLaws.{sequent_cut, sequent_unfit, sequent_codes}
use Rattle.proofs.proofs.sequent_step.Goals as goal

-- a count out of range
unfit : (table : Table) (file : List ℕ) (here : ℕ) → here < length file → (Counts 1 24 (get_or file here 0) → ⊥) → sequent table (drop here file) here ≡ fault 32 here
unfit table file here h n = sequent_unfit table file here h (fails_holds (range_tells 1 24 (get_or file here 0)) n)

-- a count in range: the codes decide
fit : (table : Table) (file : List ℕ) (here : ℕ) → here < length file → Counts 1 24 (get_or file here 0) → (r : Step)
    → Finds file (here + 1 + 48) (codes_of table (get_or file here 0) file (here + 1)) r → Finds file (here + 49) (sequent table (drop here file) here) r
fit table file here h n r = finds_as file r (sequent_codes table file here h ((range_tells 1 24 (get_or file here 0)).holds n)) (omega arith)

pub returns-then-bytes-at : goal.returns-then-bytes-at
returns-then-bytes-at c = rw c.at.ensures (sequent_cut _ c.args.bytes.now c.args.at (omega arith))

pub returns-then-n-eq0 : goal.returns-then-n-eq0
returns-then-n-eq0 c =
    rw c.at-then-n-eq0.ensures (unfit (kind_table c.args.kinds.now c.args.count) c.args.bytes.now c.args.at (omega arith) (λ k. omega (arith, k)))

pub returns-then-n-gt24 : goal.returns-then-n-gt24
returns-then-n-gt24 c =
    rw c.at-then-n-gt24.ensures (unfit (kind_table c.args.kinds.now c.args.count) c.args.bytes.now c.args.at (omega arith) (λ k. omega (arith, k)))

pub returns-then-codes_fit : goal.returns-then-codes_fit
returns-then-codes_fit c =
    fit (kind_table c.args.kinds.now c.args.count) c.args.bytes.now c.args.at (omega arith) (omega arith) (Ok _) (c.codes_fit.ensures c.if-codes_fit.true)

pub returns : goal.returns
returns c = fit (kind_table c.args.kinds.now c.args.count) c.args.bytes.now c.args.at (omega arith) (omega arith) c.codes_walk.result c.codes_walk.ensures

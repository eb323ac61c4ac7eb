-- The head's outcome decides, and after it the empty sequent or the outcome of the codes.
use lib.ListN.{drop}
use Rattle.verdict.proofs.PassedOn.{passed_on}
use Rattle.proof_files.specs.ProofParts.{kind_table}
use Rattle.proofs.specs.ProofLaws.{node_stops}
use Rattle.proofs.specs.ProofSteps.{finds_empty, finds_codes}
use Rattle.proofs.proofs.node_step.Goals as goal

pub returns-in_err-next : goal.returns-in_err-next
returns-in_err-next c =
    rw (passed_on _ c.from_residual.ensures.1)
    (node_stops (kind_table c.args.kinds.now c.args.count) (drop c.args.at c.args.bytes.now) c.args.at c.in_err-next.ensures)

pub returns-then-bytes-at-lt16 : goal.returns-then-bytes-at-lt16
returns-then-bytes-at-lt16 c =
    finds_empty (kind_table c.args.kinds.now c.args.count) c.args.bytes.now c.args.at _ c.in_ok-next.ensures c.if-bytes-at-lt16.true

pub returns : goal.returns
returns c =
    finds_codes (kind_table c.args.kinds.now c.args.count) c.args.bytes.now c.args.at _ c.in_ok-next.ensures c.if-bytes-at-lt16.false
    c.sequent_step.result c.sequent_step.ensures

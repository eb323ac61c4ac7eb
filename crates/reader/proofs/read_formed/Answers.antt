-- The bytes' refusal stands, then the table's; a claim that passes both is held as it was read.
use native.Mathlib.Omega.{arith}
use Rattle.verdict.proofs.PassedOn.{passed_on}
use Rattle.reader.specs.FilesLaws.{unread_claim, unformed_claim, formed_claim}
use Rattle.reader.proofs.read_formed.Goals as goal

pub returns-in_err-counts : goal.returns-in_err-counts
returns-in_err-counts c = rw (passed_on _ c.from_residual.ensures.1) (unread_claim _ c.in_err-counts.ensures)

pub returns-in_err-judge : goal.returns-in_err-judge
returns-in_err-judge c =
    rw (passed_on _ c.from_residual-in_err-judge.ensures.1)
    (unformed_claim _ c.in_ok-counts.ensures c.in_err-judge.ensures (omega arith, omega arith))

pub returns : goal.returns
returns c = formed_claim _ c.in_ok-counts.ensures c.in_ok-judge.ensures

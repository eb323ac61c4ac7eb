-- What is refused before the files or at the claim's beginning stands.
use Rattle.std.proofs.Common.{sym, ◌∙◌}
use Rattle.verdict.specs.Shown.{shown}
use Rattle.encoding.specs.ByteLaws.{lent_bytes}
use Rattle.lent_files.specs.LentJudged.{early_stands}
use Rattle.verdict.proofs.PassedOn.{passed_on}
use Rattle.presenting.proofs.judge_lent.Goals as goal

pub returns-in_err-begins : goal.returns-in_err-begins
returns-in_err-begins c = rw (passed_on _ c.from_residual.ensures.1) (record {
  judged = early_stands _ _ _ _ _ _ c.in_err-begins.ensures tt;
  claim_bytes_lem = lent_bytes _ c.type_inv.claim;
  proof_bytes_lem = lent_bytes _ c.type_inv.proof;
})

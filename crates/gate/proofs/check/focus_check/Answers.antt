-- what the answer promises follows from its number
use mathlib.Core.Path.{ap, ◌∙◌}
use Rattle.verdict.specs.Verdict.{packed}
use Rattle.encoding.specs.ByteLaws.{lent_bytes}
use Rattle.demands.proofs.Single.{single}
use Rattle.gate.proofs.check.focus_check.Goals as goal

pub returns : goal.returns
returns c =
    single c.args.claim.now c.args.proof.now (lent_bytes _ c.type_inv.claim) (lent_bytes _ c.type_inv.proof) _ (c.pack.ensures.0 ∙ ap packed c.judge_files.ensures)
    (rw c.judge_files.ensures at c.pack.ensures.1)

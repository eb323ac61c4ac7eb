-- What stands before the files says how long the slices are; then the files, and the state that their verdict leaves.
use Rattle.std.proofs.Common.{sym, ◌∙◌}
use Rattle.permit.specs.Plain.{state_of}
use Rattle.presenting.specs.PresentStep.{all_long, presented_step}
use Rattle.presenting.specs.PresentCall.{present_call}
use Rattle.presenting.proofs.present_step.Goals as goal

pub judge_lent-verdict-requires : goal.judge_lent-verdict-requires
judge_lent-verdict-requires c h =
    all_long c.args.state c.args.tag c.args.claim.now c.args.proof.now c.args.entries.now c.args.nodes.now c.args.codes.now (state_of c.args.state)
    (sym c.stands_before-before.ensures ∙ h)

pub returns : goal.returns
returns c =
    let told = c.judge_lent-verdict.ensures in
    present_call told.claim_bytes_lem told.proof_bytes_lem
    (presented_step c.args.state c.args.tag c.args.claim.now c.args.proof.now c.args.entries.now c.args.nodes.now c.args.codes.now
    c.stands_before-before.ensures told.judged c.settle.ensures)

-- the form is known by its opening; where neither stands in front, that is the refusal
use mathlib.Core.Path.{sym, ap, ◌∙◌}
use Rattle.encoding.specs.Outcome.{verdict_of}
use Rattle.model.specs.Begins.{begins_opens}
use Rattle.model.specs.FileSteps.{read_by, model_closed}
use Rattle.model.proofs.judge.judge_model.Goals as goal
use Rattle.model.proofs.judge.judge_model.Goals.{else-not-acts-via-then-not-acts+else-not-starts_with, else-not-acts-via-else-not-acts}

pub judge_body-requires : goal.judge_body-requires
judge_body-requires c = elim c.else-not-acts.branch [
  | else-not-acts-via-then-not-acts+else-not-starts_with w ↦ rw w.if-not-acts.true (sym (begins_opens _ _) ∙ sym w.starts_with.ensures.value ∙ w.if-not-starts_with.false)
  | else-not-acts-via-else-not-acts w ↦ rw w.if-not-acts.false (sym c.for_actions-acts.ensures ∙ w.if-not-acts.false)
]

pub returns-then-not-starts_with : goal.returns-then-not-starts_with
returns-then-not-starts_with c =
    rw c.at.ensures (ap verdict_of (sym (model_closed _ (sym c.for_actions-acts.ensures ∙ c.if-not-acts.true) (sym (begins_opens _ _) ∙ sym c.starts_with.ensures.value ∙ c.if-not-starts_with.true))))

pub returns : goal.returns
returns c = c.judge_body.ensures ∙ ap verdict_of (sym (read_by _ c.for_actions-acts.ensures))

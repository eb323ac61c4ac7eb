-- a model's refusal stands; in a model that was decoded each entry has its word
use mathlib.Core.Path.{refl, sym}
use native.Mathlib.Omega.{arith}
use Rattle.verdict.proofs.PassedOn.{passed_on}
use Rattle.encoding.specs.ByteLaws.{lent_bytes}
use Rattle.evaluation.specs.EvaluateStages.{staged_refused, model_refused, model_evaluated}
use Rattle.evaluation.proofs.after_model.Goals as goal

pub decode_model-marks-requires : goal.decode_model-marks-requires
decode_model-marks-requires c = sym c.in_ok-judge_model.ensures

pub state_count-states-requires : goal.state_count-states-requires
state_count-states-requires c = sym c.in_ok-judge_model.ensures

pub returns-in_err-judge_model : goal.returns-in_err-judge_model
returns-in_err-judge_model c =
    let fits = rw c.in_err-judge_model.was at c.judge_model.type_inv in
    rw (passed_on _ c.from_residual.ensures.1)
    (staged_refused _ c.args.words.now (model_refused c.args.kinds.now c.args.a.now c.args.b.now c.args.count c.args.model.now (sym c.in_err-judge_model.ensures)) (refl, omega (arith, fits)))

pub returns : goal.returns
returns c =
    let tables = c.decode_model-marks.ensures in
    model_evaluated c.args.kinds.now c.args.a.now c.args.b.now c.args.count c.args.model.now (lent_bytes _ c.type_inv.model) (sym c.in_ok-judge_model.ensures) tables.1 tables.0 c.state_count-states.ensures.0
    c.requires.few c.evaluate.ensures

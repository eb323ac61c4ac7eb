-- a state is its header and its lists
use Rattle.verdict.proofs.PassedOn.{passed_on}
use Rattle.model_files.specs.ReadModel.{form_by}
use Rattle.model.specs.FileSteps.{state_stops, finds_state}
use Rattle.model.proofs.judge.state_step.Goals as goal

pub returns-in_err-header : goal.returns-in_err-header
returns-in_err-header c = rw (passed_on _ c.from_residual.ensures.1) (state_stops (form_by c.args.acts) c.args.states c.args.bytes.now c.args.at c.in_err-header.ensures)

pub returns : goal.returns
returns c = finds_state (form_by c.args.acts) c.args.states c.args.bytes.now c.args.at c.in_ok-header.ensures.1 c.lists_step.result c.lists_step.ensures

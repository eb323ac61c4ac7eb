use native.Mathlib.Omega.{arith}
use mathlib.Core.List.{[]}
use Rattle.encoding.specs.Walk.{walk_begins, walk_steps, walk_stops, walk_ends}
use Rattle.verdict.proofs.PassedOn.{passed_on}
use Rattle.model_files.specs.ReadModel.{state, form_by}
use Rattle.model.specs.FileSteps.{states_from}
use Rattle.model.proofs.judge.states_step.Goals as goal

pub loop-init : goal.loop-init
unfolding states_from
loop-init c = (omega arith, omega arith, ([], walk_begins _ _ _ _ _ _))

pub returns-in_err-at : goal.returns-in_err-at
returns-in_err-at c =
    rw (passed_on _ c.from_residual.ensures.1)
    (walk_stops (λ _. state (form_by c.args.acts) c.args.states) (λ _ _. 0) c.loop.invariant.2.1 c.loop-test.true c.in_err-at.ensures)

pub loop-preserved : goal.loop-preserved
loop-preserved c =
    let f = c.in_ok-at.ensures.1 in (
      f.inside,
      omega (arith, f.near),
      (_, walk_steps (λ _. state (form_by c.args.acts) c.args.states) (λ _ _. 0) c.loop.invariant.2.1 c.loop-test.true f.found),
    )

pub returns : goal.returns
returns c = (
  _,
  record {
    found = walk_ends (λ _. state (form_by c.args.acts) c.args.states) (λ _ _. 0) c.loop.invariant.2.1 c.loop-test.false;
    inside = omega arith;
    near = omega arith;
  },
)

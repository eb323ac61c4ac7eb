use mathlib.Core.List.{[]}
use Prim.Native.Nat.{◌<◌}
use native.Mathlib.Omega.{arith}
use Rattle.verdict.proofs.PassedOn.{passed_on}
use Rattle.model_files.specs.Actions.{ACTIONS}
use Rattle.model.specs.ActionSteps.{acting_begins, more_actions, acting_more, acting_skips, acting_stops, acting_ends}
use Rattle.model.proofs.judge.lists_step.Goals as goal
use Rattle.model.proofs.judge.lists_step.Goals.{In-loop-rest, then-rest-eq1+in_ok-at, else-rest-eq1}

-- in a turn: one action more
more : (c : In-loop-rest) → c.loop-rest.invariant.0 < ACTIONS
more c = more_actions c.args.bytes.now c.args.begin c.args.states c.args.actions c.args.from c.loop-rest.invariant.2 (omega arith) c.loop-rest-test.true

pub loop-rest-init : goal.loop-rest-init
loop-rest-init c = (0, [], acting_begins _ _ _ _ _ (omega arith))

pub returns-in_err-at : goal.returns-in_err-at
returns-in_err-at c =
    rw (passed_on _ c.from_residual.ensures.1)
    (acting_stops c.args.bytes.now c.args.begin c.args.states c.args.actions c.args.from c.loop-rest.invariant.2 (more (goal.at.returns-in_err-at c).In-loop-rest) c.if-rest-eq1.true
    c.in_err-at.ensures)

pub loop-rest-preserved : goal.loop-rest-preserved
loop-rest-preserved c =
    let m = more (goal.at.loop-rest-preserved c).In-loop-rest in
    elim c.if-rest-eq1.branch [
      | then-rest-eq1+in_ok-at w ↦
          rw w.at-is (_, _, acting_more c.args.bytes.now c.args.begin c.args.states c.args.actions c.args.from c.loop-rest.invariant.2 m w.if-rest-eq1.true w.in_ok-at.ensures.1)
      | else-rest-eq1 w ↦
          rw w.at-is (_, _, acting_skips c.args.bytes.now c.args.begin c.args.states c.args.actions c.args.from c.loop-rest.invariant.2 m w.if-rest-eq1.false)
    ]

pub returns : goal.returns
returns c = (_, acting_ends c.args.bytes.now c.args.begin c.args.states c.args.actions c.args.from c.loop-rest.invariant.2 (omega (arith, c.loop-rest-test.false)))

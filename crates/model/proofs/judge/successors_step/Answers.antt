use native.Mathlib.Omega.{arith}
use mathlib.Core.Path.{◌≡◌}
use mathlib.Core.List.{[]}
use Prim.Native.Nat.{ℕ, suc, ◌+◌}
use lib.ListN.{get_or, drop}
use Rattle.encoding.specs.Parse.{fault, times}
use Rattle.encoding.specs.Walk.{walk_begins, walk_steps, walk_stops, walk_ends}
use Rattle.model_files.specs.ReadModel.{successors}
use Rattle.model.specs.ListSteps.{one_successor, after_successor, successor_cut, successor_low, successor_far, successor_fits}
use Rattle.model.proofs.judge.successors_step.Goals as goal
use Rattle.model.proofs.judge.successors_step.Goals.{In-loop-i, then-successor-least-via-then-successor-least, then-successor-least-via-else-successor-least+then-states-successor}

-- in a turn, where the next successor is a fault: the file, the number of states, the place, the least successor that may come next
module _ (c : In-loop-i) where
  stops : {m q : ℕ} → one_successor c.args.states c.loop-i.least (drop (c.args.from + c.loop-i.i) c.args.bytes.now) (c.args.from + c.loop-i.i) ≡ fault m q
      → successors c.args.states c.args.count (drop c.args.from c.args.bytes.now) c.args.from ≡ fault m q
  unfolding times
  stops e = walk_stops (one_successor c.args.states) after_successor c.loop-i.invariant.3.1 c.loop-i-test.true e

pub loop-i-init : goal.loop-i-init
unfolding times
loop-i-init c =
    let e : c.args.from + 0 ≡ c.args.from = omega arith in
    (omega arith, omega arith, omega arith, ([], rw e (walk_begins _ _ _ _ _ _)))

pub returns-then-bytes-at : goal.returns-then-bytes-at
returns-then-bytes-at c = rw c.at.ensures (stops (goal.at.returns-then-bytes-at c).In-loop-i (successor_cut _ _ _ _ (omega arith) c.if-bytes-at.true))

pub returns-then-successor-least : goal.returns-then-successor-least
returns-then-successor-least c =
    let t = (goal.at.returns-then-successor-least c).In-loop-i in
    rw c.at-then-successor-least.ensures (elim c.then-successor-least.branch [
      | then-successor-least-via-then-successor-least w ↦ stops t (successor_low _ _ _ _ c.if-bytes-at.false w.if-successor-least.true)
      | then-successor-least-via-else-successor-least+then-states-successor w ↦
          stops t (successor_far _ _ _ _ c.if-bytes-at.false w.if-successor-least.false w.if-states-successor.true)
    ])

pub loop-i-preserved : goal.loop-i-preserved
loop-i-preserved c =
    let u : ℕ = get_or c.args.bytes.now (c.args.from + c.loop-i.i) 0 in
    let e : suc u ≡ u + 1 = omega arith in
    let o : c.args.from + c.loop-i.i + 1 ≡ c.args.from + (c.loop-i.i + 1) = omega arith in
    let stepped =
    walk_steps (one_successor c.args.states) after_successor c.loop-i.invariant.3.1 c.loop-i-test.true
    (successor_fits c.args.states c.loop-i.least c.args.bytes.now (c.args.from + c.loop-i.i) (omega arith) c.if-successor-least.false c.if-states-successor.false) in
    (omega arith, omega arith, omega arith, (_, rw (e, o) at stepped))

pub returns : goal.returns
unfolding times
returns c =
    let e : c.loop-i.i ≡ c.args.count = omega arith in (
      _,
      record {
        found = rw e at (walk_ends (one_successor _) after_successor c.loop-i.invariant.3.1 c.loop-i-test.false);
        inside = omega arith;
        near = omega arith;
      },
    )

use mathlib.Core.Path.{◌∙◌}
use Prim.Native.Nat.{◌<◌}
use native.Mathlib.Omega.{arith}
use lib.ListN.{length, length-set}
use Rattle.fitting.specs.Entering.{passing_swaps, passing_passes, passing_ends}
use Rattle.fitting.proofs.enter.Goals as goal
use Rattle.fitting.proofs.enter.Goals.{then-held-next, else-held-next}

pub loop-i-preserved : goal.loop-i-preserved
loop-i-preserved c =
    let room : c.args.count < length c.args.members.now = omega (arith, c.requires.0) in
    let l = c.loop-i in
    elim c.if-held-next.branch [
      | then-held-next w ↦ rw (w.members-is, w.held-is) (length-set l.members l.i l.held ∙ l.invariant.0, passing_swaps room l.invariant.1 (omega arith) w.if-held-next.true)
      | else-held-next w ↦ rw (w.members-is, w.held-is) (l.invariant.0, passing_passes room l.invariant.1 (omega arith) (λ k. omega (arith, w.if-held-next.false)))
    ]

pub returns : goal.returns
returns c = passing_ends (omega (arith, c.requires.0)) c.loop-i.invariant.1 (omega arith)

use mathlib.Core.Path.{◌≡◌}
use Prim.Native.Nat.{suc, ◌-◌, ◌<◌}
use native.Mathlib.Omega.{arith}
use Rattle.numbers.specs.First.{firsts_name, firsts_put}
use Rattle.numbers.proofs.find_firsts.Goals as goal

pub loop-e-preserved-then-kinds-e-ne-NAME : goal.loop-e-preserved-then-kinds-e-ne-NAME
loop-e-preserved-then-kinds-e-ne-NAME c =
    let inside : c.loop-e.e - 1 < c.args.table.now.count = omega (arith, c.loop-e-test.true, c.loop-e.auto.e) in
    let same : c.loop-e.e ≡ suc (c.loop-e.e - 1) = omega (arith, c.loop-e-test.true) in
    rw c.from.ensures (firsts_put inside (rw same at c.loop-e.invariant) (omega arith) c.if-kinds-e-ne-NAME.true)

pub loop-e-preserved : goal.loop-e-preserved
loop-e-preserved c =
    let inside : c.loop-e.e - 1 < c.args.table.now.count = omega (arith, c.loop-e-test.true, c.loop-e.auto.e) in
    let same : c.loop-e.e ≡ suc (c.loop-e.e - 1) = omega (arith, c.loop-e-test.true) in
    firsts_name inside (rw same at c.loop-e.invariant) c.if-kinds-e-ne-NAME.false

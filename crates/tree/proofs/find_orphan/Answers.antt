use mathlib.Core.Path.{sym}
use native.Mathlib.Omega.{arith}
use Rattle.tree.specs.TreeStages.{orphan_found, none_found}
use Rattle.tree.proofs.find_orphan.Goals as goal

pub returns-then-owners-node-eq0 : goal.returns-then-owners-node-eq0
returns-then-owners-node-eq0 c roots p size o = sym (orphan_found roots p _ _ size o _ c.loop-node-test.true c.loop-node.invariant c.if-owners-node-eq0.true)

pub returns : goal.returns
returns c roots p size o = sym (none_found roots p _ _ size o (λ k h. c.loop-node.invariant k (omega arith)))

use mathlib.Core.Path.{◌≡◌}
use native.Mathlib.Omega.{arith}
use Rattle.spans.specs.Ancestors.{spans_tell}
use Rattle.spans.specs.SpanLaws.{spans_done}
use Rattle.spans.proofs.number_nodes.Goals as goal

pub returns : goal.returns
returns c =
    let P = c.args.owners.now.upward.parented in
    let e : c.loop-v.v ≡ c.args.owners.now.nodes = omega (arith, c.loop-v.auto, c.loop-v-test.false) in
    spans_tell _ _ _ _ P (spans_done _ _ P _ _ c.requires _ _ (rw e at c.loop-v.invariant))

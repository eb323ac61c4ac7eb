use mathlib.Core.Path.{◌∙◌}
use native.Mathlib.Omega.{arith}
use lib.ListN.{length-set}
use Rattle.loops.specs.PathLaws.{paths_more, paths_done}
use Rattle.loops.proofs.fill_paths.Goals as goal

pub loop-v-preserved : goal.loop-v-preserved
loop-v-preserved c =
    let turn = c.loop-v in
    let given = c.requires in
    rw (c.nearest-in-loop-v.ensures, c.nearest.ensures) (
      length-set turn.bars _ _ ∙ turn.invariant.0,
      length-set turn.boxes _ _ ∙ turn.invariant.1,
      paths_more _ _ _ _ _ (rw given.same at c.args.owners.now.upward.parented) (omega arith) _ _ (omega arith) (omega arith) turn.invariant.2 _ c.may_loop-barred.ensures,
    )

pub returns : goal.returns
returns c = paths_done _ _ _ _ _ _ _ (omega (arith, c.loop-v.auto)) c.loop-v-test.false c.loop-v.invariant.2

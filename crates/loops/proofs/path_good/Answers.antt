-- a node that is no back leaf has no loop path
use mathlib.Core.Path.{sym}
use Rattle.loops.specs.LoopStages.{no_leaf, leaf_loop}
use Rattle.loops.proofs.path_good.Goals as goal

pub returns-then-tree-v-ne-BACK : goal.returns-then-tree-v-ne-BACK
returns-then-tree-v-ne-BACK c ss cs n h T = sym (no_leaf _ _ ss cs n _ h c.if-tree-v-ne-BACK.true)

pub returns : goal.returns
returns c ss cs n h T = leaf_loop _ _ ss cs n _ h _ _ c.if-tree-v-ne-BACK.false T

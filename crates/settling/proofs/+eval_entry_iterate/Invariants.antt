-- entry evaluation and fixpoint iteration: twice the entry number falls from call to call, an entry before its iteration
use Prim.Native.Nat.{◌+◌, ◌*◌}
use lib.ListN.{get_or}
use Rattle.dependencies.specs.Operands.{fix_of}
use Rattle.entry_sets.specs.Sets.{Lowest}
use Rattle.blocks.specs.Turn.{Iterating, ahead}
use Rattle.settling.specs.Evaluated.{Meeting, unmet}
use Rattle.settling.proofs.+eval_entry_iterate.Given as goal

abbrev pub decreases-eval_entry : goal.decreases-eval_entry
decreases-eval_entry l = 2 * l.e + 1

abbrev pub decreases-iterate : goal.decreases-iterate
decreases-iterate l = 2 * l.x

abbrev pub invariant-iterate-loop-c : goal.invariant-iterate-loop-c
invariant-iterate-loop-c l = Meeting l.prepared.claim.kinds.now l.prepared.claim.a.now l.prepared.claim.b.now l.model.masks.now l.model.rows.now l.model.size l.x l.initial.done l.words l.done l.block l.met × Lowest l.met l.c

abbrev pub decreases-iterate-loop-c : goal.decreases-iterate-loop-c
decreases-iterate-loop-c l = unmet l.prepared.claim.kinds.now l.prepared.claim.a.now l.prepared.claim.b.now l.model.masks.now l.model.rows.now l.model.size l.block l.met

abbrev pub invariant-iterate-loop-e : goal.invariant-iterate-loop-e
invariant-iterate-loop-e l = Iterating l.prepared.claim.kinds.now l.prepared.claim.a.now l.prepared.claim.b.now l.model.masks.now l.model.rows.now l.model.size (fix_of (get_or l.prepared.claim.kinds.now l.x 0)) l.done l.block l.words l.waiting × Lowest l.waiting l.e

abbrev pub decreases-iterate-loop-e : goal.decreases-iterate-loop-e
decreases-iterate-loop-e l = ahead l.prepared.claim.kinds.now l.prepared.claim.a.now l.prepared.claim.b.now l.model.masks.now l.model.rows.now l.model.size (fix_of (get_or l.prepared.claim.kinds.now l.x 0)) l.done l.block l.words l.waiting

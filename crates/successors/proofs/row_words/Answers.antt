use mathlib.Core.Path.{◌≡◌, sym, subst}
use Prim.Native.Nat.{ℕ, ◌+◌, ◌*◌, ◌≤◌}
use native.Mathlib.Omega.{arith}
use Rattle.states.specs.BitLaws.{read_set, read_clear}
use Rattle.states.specs.Rows.{words_none, words_pass, words_more}
use Rattle.successors.proofs.row_words.Goals as goal
use Rattle.successors.proofs.row_words.Goals.{then-used-a-eq1, else-used-a-eq1}

pub loop-a-init : goal.loop-a-init
loop-a-init c = words_none _ _ _ _

pub action_rows-requires : goal.action_rows-requires
action_rows-requires c =
    let turn = c.loop-a in
    let room = c.requires turn.a (read_set c.args.used turn.a c.if-used-a-eq1.true) in
    (c.loop-a-test.true, subst (λ (k : ℕ). 64 * turn.a + 64 ≤ k) (sym turn.invariant.long) room)

pub loop-a-preserved : goal.loop-a-preserved
loop-a-preserved c =
    let turn = c.loop-a in
    elim c.if-used-a-eq1.branch [
      | then-used-a-eq1 w ↦ rw w.rows-is (words_more turn.invariant c.args.table.now.states (read_set c.args.used turn.a w.if-used-a-eq1.true) _ w.action_rows.ensures)
      | else-used-a-eq1 w ↦ rw w.rows-is (words_pass turn.invariant (read_clear c.args.used turn.a w.if-used-a-eq1.false))
    ]

pub shape_of-rows : goal.shape_of-rows
shape_of-rows c = c.loop-a.invariant.long

pub returns : goal.returns
returns c =
    let e : c.loop-a.a ≡ 16 = omega arith in
    rw e at c.loop-a.invariant

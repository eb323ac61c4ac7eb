use mathlib.Core.Path.{◌≡◌, sym, ◌∙◌}
use mathlib.Core.List.{[]}
use Prim.Native.Nat.{◌%◌, ◌^◌, ◌<◌}
use native.Mathlib.Omega.{arith}
use lib.ListN.{get_or}
use Rattle.model_files.specs.Actions.{ACTIONS}
use Rattle.model_files.specs.ReadModel.{form_by}
use Rattle.model.specs.ActionSteps.{acting_begins, more_actions, acting_more, acting_skips}
use Rattle.model.specs.Rows.{row_skips}
use Rattle.model.specs.Decoding.{ListAt, header_there, next_list, state_put}
use Rattle.model.proofs.tables.put_state.Goals as goal
use Rattle.model.proofs.tables.put_state.Goals.{In-loop-rest, then-rest-eq1, else-rest-eq1}

-- in a turn: one action more, and its list is there if its bit stands
module _ (c : In-loop-rest) where
  small : c.known_header-header.result.actions < 2 ^ ACTIONS
  small = omega (arith, c.known_header-header.type_inv)

  more : c.loop-rest.action < ACTIONS
  more = more_actions c.args.bytes.now c.args.at (get_or c.args.bytes.now 4 0) c.known_header-header.result.actions c.known_header-header.result.next c.loop-rest.invariant.1 small c.loop-rest-test.true

  listed : c.loop-rest.rest % 2 ≡ 1 → ListAt c.args.bytes.now c.args.at (get_or c.args.bytes.now 4 0) c.loop-rest.next
  listed odd = next_list (form_by c.args.acts) c.args.bytes.now c.args.at c.requires.1 c.known_header-header.ensures c.loop-rest.invariant.1 more odd

pub known_header-header-requires : goal.known_header-header-requires
known_header-header-requires c = (c.requires.0, header_there _ _ _ c.requires.1)

pub loop-rest-init : goal.loop-rest-init
loop-rest-init c = ([], acting_begins _ _ _ _ _ c.known_header-header.ensures.1.inside, c.requires.2)

pub bounds-bytes-next : goal.bounds-bytes-next
bounds-bytes-next c = (listed (goal.at.bounds-bytes-next c).In-loop-rest c.if-rest-eq1.true).here

pub put_marks-requires : goal.put_marks-requires
put_marks-requires c = let t = (goal.at.put_marks-requires c).In-loop-rest in ((listed t c.if-rest-eq1.true).successors_there, more t)

pub loop-rest-preserved : goal.loop-rest-preserved
loop-rest-preserved c =
    let ls = c.loop-rest.invariant.0 in
    let t = (goal.at.loop-rest-preserved c).In-loop-rest in
    let e = c.known_header-header.result in
    let s = c.args.bytes.now in
    elim c.if-rest-eq1.branch [
      | then-rest-eq1 w ↦
          let stepped = acting_more s c.args.at (get_or s 4 0) e.actions e.next c.loop-rest.invariant.1 (more t) w.if-rest-eq1.true (listed t w.if-rest-eq1.true).read in
          rw (w.next-is, w.marks-is) (_, stepped, w.put_marks.ensures ls c.loop-rest.invariant.1.walking.many c.loop-rest.invariant.2)
      | else-rest-eq1 w ↦
          let skipped = acting_skips s c.args.at (get_or s 4 0) e.actions e.next c.loop-rest.invariant.1 (more t) w.if-rest-eq1.false in
          rw (w.next-is, w.marks-is) (_, skipped, c.loop-rest.invariant.2 ∙ sym (row_skips ls))
    ]

pub returns : goal.returns
returns c = state_put (form_by c.args.acts) c.args.bytes.now c.args.at c.requires.1 c.known_header-header.ensures c.loop-rest.invariant.1 c.loop-rest-test.false c.loop-rest.invariant.2

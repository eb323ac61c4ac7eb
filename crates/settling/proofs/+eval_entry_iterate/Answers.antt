use mathlib.Core.Path.{◌∙◌}
use mathlib.Core.Logic.{inl, inr}
use Prim.Native.Nat.{ℕ, ◌<◌}
use native.Mathlib.Omega.{arith}
use lib.ListN.{length, get_or}
use Rattle.forming.specs.Claim.{a_below, b_below}
use Rattle.dependencies.specs.Operands.{few_kinds}
use Rattle.blocks.specs.Turn.{iterating_next, iterating_nearer}
use Rattle.settling.specs.Evaluated.{later, known_more, formed_evaluated, reads_name, reads_one, reads_two, known_a, known_b, meeting_first, met_small, meeting_grown, grown_closer, meeting_settled, settled_closer, met_block, block_there, iteration_first, block_evaluated, top_alone, top_not_alone, top_known, open_kind}
use Rattle.settling.proofs.+eval_entry_iterate.Goals as goal
use Rattle.settling.proofs.+eval_entry_iterate.Goals.{iterate-In-loop-c, iterate-then-prepared-c-ne0, iterate-else-prepared-c-ne0+then-needs_rounds, iterate-else-prepared-c-ne0+else-needs_rounds}

pub eval_entry-needs_rounds-requires : goal.eval_entry-needs_rounds-requires
eval_entry-needs_rounds-requires t c =
    c.requires.e_in_bounds.0

pub eval_entry-returns-then-kind-lt-OR : goal.eval_entry-returns-then-kind-lt-OR
eval_entry-returns-then-kind-lt-OR t c =
    let (there, known) = c.requires.e_in_bounds in
    let given = c.requires.standing in
    formed_evaluated _ _ _ _ _ _ _ _ given _ there (reads_name _ _ _ given.ready.claim _ _ there known (inl c.if-kind-lt-OR.true)) _ _ c.settle_entry.ensures.words_after c.settle_entry.ensures.inserted

pub eval_entry-returns-then-kind-eq-NAME : goal.eval_entry-returns-then-kind-eq-NAME
eval_entry-returns-then-kind-eq-NAME t c =
    let (there, known) = c.requires.e_in_bounds in
    let given = c.requires.standing in
    let told = c.settle_entry-then-kind-eq-NAME.ensures in
    formed_evaluated _ _ _ _ _ _ _ _ given _ there (reads_name _ _ _ given.ready.claim _ _ there known (inr (omega (arith, c.if-kind-eq-NAME.true)))) _ _ told.words_after told.inserted

pub eval_entry-eval_entry-requires : goal.eval_entry-eval_entry-requires
eval_entry-eval_entry-requires t c =
    let prepared = c.args.prepared.now in
    let (there, known) = c.requires.e_in_bounds in
    let given = c.requires.standing in
    let claim = given.ready.claim in
    let n = few_kinds claim _ there c.if-kind-eq-NAME.false in
    let h : 3 < get_or prepared.claim.kinds.now c.args.e 0 = omega (arith, c.if-kind-lt-OR.false) in
    let m = a_below claim _ there h n in (
      omega (arith, c.decreases, m, c.wide.ensures),
      (
        given,
        (
          omega (arith, m, c.wide.ensures, there),
          known_a _ _ _ claim _ _ there known h n
              (λ k. top_alone _ _ _ prepared.tops.now prepared.found.tops _ (omega (arith, m, there)) (c.needs_rounds.ensures.1 c.if-needs_rounds.false k n)) _ c.wide.ensures,
        ),
      ),
    )

pub eval_entry-eval_entry-requires-then-kind-lt-DIAMOND : goal.eval_entry-eval_entry-requires-then-kind-lt-DIAMOND
eval_entry-eval_entry-requires-then-kind-lt-DIAMOND t c =
    let prepared = c.args.prepared.now in
    let (there, known) = c.requires.e_in_bounds in
    let claim = c.requires.standing.ready.claim in
    let told = c.eval_entry.ensures in
    let w = c.wide-then-kind-lt-DIAMOND.ensures in
    let h : 3 < get_or prepared.claim.kinds.now c.args.e 0 = omega (arith, c.if-kind-lt-OR.false) in
    let n : get_or prepared.claim.kinds.now c.args.e 0 < 6 = omega (arith, c.if-kind-lt-DIAMOND.true) in
    let m = b_below claim _ there h n in (
      omega (arith, c.decreases, m, w),
      (told.standing, (omega (arith, m, w, there), known_b _ _ _ claim _ _ there (known_more _ _ _ _ _ _ told.more known) h n _ w)),
    )

pub eval_entry-returns-then-kind-lt-DIAMOND : goal.eval_entry-returns-then-kind-lt-DIAMOND
eval_entry-returns-then-kind-lt-DIAMOND t c =
    let there = c.requires.e_in_bounds.0 in
    let claim = c.requires.standing.ready.claim in
    let first = c.eval_entry.ensures in
    let second = c.eval_entry-then-kind-lt-DIAMOND.ensures in
    let told = c.settle_entry-then-kind-lt-DIAMOND.ensures in
    later _ _ _ _ _ _ _ _ _ _ _ (λ d h. second.more d (first.more d h))
    (formed_evaluated _ _ _ _ _ _ _ _ second.standing _ there
    (reads_two _ _ _ claim _ there _ _ c.wide.ensures c.wide-then-kind-lt-DIAMOND.ensures _ (second.more _ first.settled) second.settled) _ _ told.words_after told.inserted)

pub eval_entry-returns : goal.eval_entry-returns
eval_entry-returns t c =
    let there = c.requires.e_in_bounds.0 in
    let first = c.eval_entry.ensures in
    let told = c.settle_entry-2.ensures in
    later _ _ _ _ _ _ _ _ _ _ _ first.more
    (formed_evaluated _ _ _ _ _ _ _ _ first.standing _ there
    (reads_one _ _ _ c.requires.standing.ready.claim _ there (omega (arith, c.if-kind-lt-DIAMOND.false)) _ c.wide.ensures _ first.settled) _ _ told.words_after told.inserted)

-- in a turn of the first loop: the entry that was met
met_entry : {t : ℕ} (c : iterate-In-loop-c t) → c.loop-c.c < c.args.x
met_entry c = met_small _ _ _ _ _ _ _ c.requires.x_in_bounds.0 _ _ _ _ _ c.loop-c.invariant.0 _ (c.loop-c.invariant.1.found c.loop-c-test.true)

pub iterate-loop-c-init : goal.iterate-loop-c-init
iterate-loop-c-init t c =
    let (there, known, above, below) = c.requires.x_in_bounds in
    (meeting_first _ _ _ _ _ _ _ there _ _ c.requires.standing known above below _ _ c.grow.ensures, c.lowest-c.ensures)

pub iterate-grow-requires-then-prepared-c-ne0 : goal.iterate-grow-requires-then-prepared-c-ne0
iterate-grow-requires-then-prepared-c-ne0 t c =
    let prepared = c.args.prepared.now in
    let m = met_entry (goal.at.iterate-grow-requires-then-prepared-c-ne0 t c).In-loop-c in
    let l : c.loop-c.c < length prepared.claim.kinds.now = omega (arith, m, c.requires.x_in_bounds.0) in
    let told = c.loop-c.invariant.0 in
    (l, open_kind _ _ _ prepared.tops.now prepared.found.tops _ l c.requires.standing.ready.claim c.if-prepared-c-ne0.true, told.block_long, c.remove.ensures.long ∙ told.met_long)

pub iterate-needs_rounds-requires : goal.iterate-needs_rounds-requires
iterate-needs_rounds-requires t c =
    let m = met_entry (goal.at.iterate-needs_rounds-requires t c).In-loop-c in
    omega (arith, m, c.requires.x_in_bounds.0)

pub iterate-iterate-requires : goal.iterate-iterate-requires
iterate-iterate-requires t c =
    let prepared = c.args.prepared.now in
    let m = met_entry (goal.at.iterate-iterate-requires t c).In-loop-c in
    let l : c.loop-c.c < length prepared.claim.kinds.now = omega (arith, m, c.requires.x_in_bounds.0) in
    let (above, below) = c.needs_rounds.ensures.0 c.if-needs_rounds.true in (
      omega (arith, c.decreases, m),
      (
        c.loop-c.invariant.0.standing,
        (l, top_known _ _ _ prepared.tops.now prepared.found.tops _ l c.requires.standing.ready.claim c.if-prepared-c-ne0.false _, above, below),
      ),
    )

pub iterate-eval_entry-requires : goal.iterate-eval_entry-requires
iterate-eval_entry-requires t c =
    let prepared = c.args.prepared.now in
    let m = met_entry (goal.at.iterate-eval_entry-requires t c).In-loop-c in
    let l : c.loop-c.c < length prepared.claim.kinds.now = omega (arith, m, c.requires.x_in_bounds.0) in (
      omega (arith, c.decreases, m),
      (
        c.loop-c.invariant.0.standing,
        (l, top_known _ _ _ prepared.tops.now prepared.found.tops _ l c.requires.standing.ready.claim c.if-prepared-c-ne0.false _),
      ),
    )

pub iterate-loop-c-smaller : goal.iterate-loop-c-smaller
iterate-loop-c-smaller t c =
    let there = c.requires.x_in_bounds.0 in
    let turn = c.loop-c.invariant in
    let found = turn.1.found c.loop-c-test.true in
    elim c.if-prepared-c-ne0.branch [
      | iterate-then-prepared-c-ne0 w ↦ rw (w.block-is, w.met-is) (grown_closer _ _ _ _ _ _ _ there _ _ _ _ _ turn.0 _ found _ c.remove.ensures _ _ w.grow-then-prepared-c-ne0.ensures)
      | iterate-else-prepared-c-ne0+then-needs_rounds w ↦ rw (w.block-is, w.met-is) (settled_closer _ _ _ _ _ _ _ there _ _ _ _ _ turn.0 _ found _ c.remove.ensures)
      | iterate-else-prepared-c-ne0+else-needs_rounds w ↦ rw (w.block-is, w.met-is) (settled_closer _ _ _ _ _ _ _ there _ _ _ _ _ turn.0 _ found _ c.remove.ensures)
    ]

pub iterate-loop-c-preserved : goal.iterate-loop-c-preserved
iterate-loop-c-preserved t c =
    let prepared = c.args.prepared.now in
    let there = c.requires.x_in_bounds.0 in
    let turn = c.loop-c.invariant in
    let found = turn.1.found c.loop-c-test.true in
    let m = met_entry (goal.at.iterate-loop-c-preserved t c).In-loop-c in
    let l : c.loop-c.c < length prepared.claim.kinds.now = omega (arith, m, there) in (
      elim c.if-prepared-c-ne0.branch [
        | iterate-then-prepared-c-ne0 w ↦
            rw (w.words-is, w.done-is, w.block-is, w.met-is) (meeting_grown _ _ _ _ _ _ _ there _ _ _ _ _ turn.0 _ found _ c.remove.ensures (top_not_alone _ _ _ prepared.tops.now prepared.found.tops _ l w.if-prepared-c-ne0.true) _ _ w.grow-then-prepared-c-ne0.ensures)
        | iterate-else-prepared-c-ne0+then-needs_rounds w ↦
            rw (w.words-is, w.done-is, w.block-is, w.met-is) (meeting_settled _ _ _ _ _ _ _ there _ _ _ _ _ turn.0 _ found _ c.remove.ensures _ _ w.iterate.ensures)
        | iterate-else-prepared-c-ne0+else-needs_rounds w ↦
            rw (w.words-is, w.done-is, w.block-is, w.met-is) (meeting_settled _ _ _ _ _ _ _ there _ _ _ _ _ turn.0 _ found _ c.remove.ensures _ _ w.eval_entry.ensures)
      ],
      c.lowest-c-in-loop-c.ensures,
    )

pub iterate-loop-e-init : goal.iterate-loop-e-init
iterate-loop-e-init t c =
    let turn = c.loop-c.invariant in (
      iteration_first _ _ _ _ _ _ _ c.requires.x_in_bounds.0 _ _ _ _ _ turn.0 (turn.1.none (omega (arith, c.loop-c-test.false))) _ _ c.start_word.ensures c.begin.ensures,
      c.lowest-e.ensures,
    )

pub iterate-loop-e-smaller : goal.iterate-loop-e-smaller
iterate-loop-e-smaller t c =
    let there = c.requires.x_in_bounds.0 in
    let met = c.loop-c.invariant in
    let none = met.1.none (omega (arith, c.loop-c-test.false)) in
    let turn = c.loop-e.invariant in
    iterating_nearer _ _ _ _ _ _ c.requires.standing.ready.claim _ _ _ (met_block _ _ _ _ _ _ _ there _ _ _ _ _ met.0 none) (block_there _ _ _ _ _ _ _ there _ _ _ _ _ met.0 none) _ c.args.prepared.now.found.users _ _ _ _ _ turn.0
    (turn.1.found c.loop-e-test.true) c.turn.ensures c.loop-e-test.true

pub iterate-loop-e-preserved : goal.iterate-loop-e-preserved
iterate-loop-e-preserved t c =
    let there = c.requires.x_in_bounds.0 in
    let met = c.loop-c.invariant in
    let none = met.1.none (omega (arith, c.loop-c-test.false)) in
    let turn = c.loop-e.invariant in (
      iterating_next _ _ _ _ _ _ c.requires.standing.ready.claim _ _ _ (met_block _ _ _ _ _ _ _ there _ _ _ _ _ met.0 none) (block_there _ _ _ _ _ _ _ there _ _ _ _ _ met.0 none) _ c.args.prepared.now.found.users _ _ _ _ _ turn.0
          (turn.1.found c.loop-e-test.true) c.turn.ensures,
      c.lowest-e-in-loop-e.ensures,
    )

pub iterate-returns : goal.iterate-returns
iterate-returns t c =
    let met = c.loop-c.invariant in
    let turn = c.loop-e.invariant in
    block_evaluated _ _ _ _ _ _ _ c.requires.x_in_bounds.0 _ _ _ _ _ met.0 (met.1.none (omega (arith, c.loop-c-test.false))) _ _ _ turn.0 (turn.1.none (omega (arith, c.loop-e-test.false))) c.join.ensures

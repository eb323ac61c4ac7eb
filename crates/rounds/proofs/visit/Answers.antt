-- An entry that is due gets its number, and every other has it already.
use mathlib.Core.Path.{sym, ◌∙◌}
use Prim.Native.Nat.{ℕ, ◌<◌, ◌≤◌}
use native.Mathlib.Omega.{arith}
use Rattle.rounds.specs.Rounds.{due_tells, round_skips, here, level_small, round_places}
use Rattle.rounds.proofs.visit.Goals as goal

-- the entry of a round is one of the table
inside : (e q count : ℕ) → e < q → q ≤ count → e < count
inside e q count h l = omega arith

pub returns-else-due : goal.returns-else-due
returns-else-due c =
    let given = c.requires in
    let within = inside _ _ _ given.e_lt_q given.round.within in
    round_skips given.round given.e_lt_q (sym (due_tells given.round within _ c.due.ensures) ∙ c.if-due.false)

pub place-requires-clause-e_lt_count : goal.place-requires-clause-e_lt_count
place-requires-clause-e_lt_count c =
    let given = c.requires in
    let within = inside _ _ _ given.e_lt_q given.round.within in
    let now = sym (due_tells given.round within _ c.due.ensures) ∙ c.if-due.true in
    let level = here given.round given.e_lt_q now in
    let small = level_small given.round given.e_lt_q now in
    (within, omega (arith, level), omega (arith, level, small), given.round.stands.mark_room)

pub returns-then-due : goal.returns-then-due
returns-then-due c =
    let given = c.requires in
    let within = inside _ _ _ given.e_lt_q given.round.within in
    round_places given.round given.e_lt_q (sym (due_tells given.round within _ c.due.ensures) ∙ c.if-due.true) c.place.ensures

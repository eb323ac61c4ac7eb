-- the lent gate state: the number that a call answers, and the numbers that it leaves in the state
use Rattle.std.specs.Prelude.{◌≡◌, refl, ℕ}
use Rattle.verdict.specs.Verdict.{packed}
use Rattle.permit.specs.GateState as gates
use Rattle.permit.specs.GateState.{Gate, closed, opened, holding, opening, closing, taking}
use Rattle.permit.specs.Numbers.{packed_permit}
use Rattle.permit.specs.Plain.{state_of, plain, left_by_lem, left_by_taking}
use Rattle.permit.specs.declared.State.{State}

-- opening and closing: what is right for the state s, answered as r, and the state left as t
pub record Answered (right : gates.Changed) (s : State) (r : ℕ) (t : State) : Type 0 where
  pub answer : r ≡ packed right.answer
  pub state : t ≡ left_by_lem right.answer right.gate s

-- taking
pub record TookNumber (right : gates.Taken) (s : State) (r : ℕ) (t : State) : Type 0 where
  pub answer : r ≡ packed_permit right.answer
  pub state : t ≡ left_by_taking right.answer right.gate s

-- ---- the numbers that are left stand for the state that the definition leaves, with a refusal too
pub plain_reads : (g : Gate) → state_of (plain g) ≡ g
unfolding state_of
plain_reads closed = refl
plain_reads opened = refl
plain_reads (holding tag) = refl

module _ (s : State) where
  opening_left : (g : Gate) → state_of s ≡ g → state_of (left_by_lem (opening g).answer (opening g).gate s) ≡ (opening g).gate
  unfolding opening
  opening_left closed e = plain_reads opened
  opening_left opened e = e
  opening_left (holding tag) e = e

  pub opening_reads : state_of (left_by_lem (opening (state_of s)).answer (opening (state_of s)).gate s) ≡ (opening (state_of s)).gate
  opening_reads = opening_left (state_of s) refl

  closing_left : (g : Gate) → state_of s ≡ g → state_of (left_by_lem (closing g).answer (closing g).gate s) ≡ (closing g).gate
  unfolding closing
  closing_left closed e = e
  closing_left opened e = plain_reads closed
  closing_left (holding tag) e = plain_reads closed

  pub closing_reads : state_of (left_by_lem (closing (state_of s)).answer (closing (state_of s)).gate s) ≡ (closing (state_of s)).gate
  closing_reads = closing_left (state_of s) refl

  taking_left : (g : Gate) → state_of s ≡ g → state_of (left_by_taking (taking g).answer (taking g).gate s) ≡ (taking g).gate
  unfolding taking
  taking_left closed e = e
  taking_left opened e = e
  taking_left (holding tag) e = plain_reads opened

  pub taking_reads : state_of (left_by_taking (taking (state_of s)).answer (taking (state_of s)).gate s) ≡ (taking (state_of s)).gate
  taking_reads = taking_left (state_of s) refl

-- the gate state in plain numbers, and what a step on it answers and leaves
use Rattle.std.specs.Prelude.{◌≡◌, Bool, true, false, ℕ, eqb, Result, Ok, Err, ⊤}
use Rattle.std.proofs.Math.Path.{refl}
use borrow.Author.Tests.{eq-eqb, ne_eqb}
use Rattle.verdict.specs.Verdict as verdicts
use Rattle.verdict.specs.Verdict.{accepted}
use Rattle.verdict.specs.Shown.{refusal, shown}
use Rattle.permit.specs.GateState as gates
use Rattle.permit.specs.GateState.{Gate, closed, opened, holding, granted, denied}
use Rattle.permit.specs.declared.State.{State}
use Rattle.permit.specs.declared.Step.{Step}
use Rattle.verdict.specs.declared.Refusal.{Refusal}

abbrev pub pick : Bool → Gate → Gate → Gate
pick true g h = g
pick false g h = h

-- phase 1 open, 2 holding; any other phase reads as closed
unfoldable pub state_of : State → Gate
state_of s = pick (eqb s.phase 1) opened (pick (eqb s.phase 2) (holding s.tag) closed)

-- no tag is kept where no permit is held
abbrev pub plain : Gate → State
plain closed = record { phase = 0; tag = 0 }
plain opened = record { phase = 1; tag = 0 }
plain (holding tag) = record { phase = 2; tag = tag }

-- a call that does what it is for leaves the new state, a refused one the numbers that it was lent
abbrev pub left_by_lem : verdicts.Verdict → Gate → State → State
left_by_lem accepted g s = plain g
left_by_lem (verdicts.refused n q) g s = s

-- opening and closing
pub record Stepped (right : gates.Changed) (s : State) (r : Step ⊤) : Type 0 where
  pub answer : shown r.answer ≡ right.answer
  pub state : r.state ≡ left_by_lem right.answer right.gate s

-- the permit that an answer stands for
abbrev pub shown_permit : Result ℕ (Refusal ℕ) → gates.Permit
shown_permit (Ok tag) = granted tag
shown_permit (Err r) = denied r.number r.place

abbrev pub left_by_taking : gates.Permit → Gate → State → State
left_by_taking (granted tag) g s = plain g
left_by_taking (denied n q) g s = s

pub record TookStep (right : gates.Taken) (s : State) (r : Step ℕ) : Type 0 where
  pub answer : shown_permit r.answer ≡ right.answer
  pub state : r.state ≡ left_by_taking right.answer right.gate s

-- the answers of the steps
abbrev pub refused_with : {A : Type 0} → ℕ → State → Step A
refused_with number s = record { answer = Err (refusal number 0); state = s }

abbrev pub moved_to : {A : Type 0} → ℕ → A → Step A
moved_to phase answer = record { answer = Ok answer; state = record { phase = phase; tag = 0 } }

module _ (s : State) where
  pub state_open : s.phase ≡ 1 → state_of s ≡ opened
  unfolding state_of
  state_open h = rw (eq-eqb s.phase 1 h) refl

  pub state_holding : s.phase ≡ 2 → state_of s ≡ holding s.tag
  unfolding state_of
  state_holding h = rw h refl

  pub state_closed : (s.phase ≡ 1 → ⊥) → (s.phase ≡ 2 → ⊥) → state_of s ≡ closed
  unfolding state_of
  state_closed h k = rw (ne_eqb s.phase 1 h, ne_eqb s.phase 2 k) refl

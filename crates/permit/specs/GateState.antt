-- the gate's states, and opening, taking and closing: answer and next state; refusals 50, 52 and 53
use Rattle.std.specs.Prelude.{ℕ}
use Rattle.verdict.specs.Verdict.{Verdict, accepted, refused}

-- it starts closed; a permit is held under a 32-bit tag
pub data Gate : Type 0 where
  closed : Gate
  opened : Gate
  holding : ℕ → Gate

abbrev pub start : Gate
start = closed

-- a call's answer (accepted: it did what it is for) and the state that it leaves
pub record Changed : Type 0 where
  pub answer : Verdict
  pub gate : Gate

-- 53 not closed
unfoldable pub opening : Gate → Changed
opening closed = record { answer = accepted; gate = opened }
opening opened = record { answer = refused 53 0; gate = opened }
opening (holding tag) = record { answer = refused 53 0; gate = holding tag }

-- drops any permit; 50 closed
unfoldable pub closing : Gate → Changed
closing closed = record { answer = refused 50 0; gate = closed }
closing opened = record { answer = accepted; gate = closed }
closing (holding tag) = record { answer = accepted; gate = closed }

-- what taking the permit answers: the tag, or a refusal's number and place
pub data Permit : Type 0 where
  granted : ℕ → Permit
  denied : ℕ → ℕ → Permit

pub record Taken : Type 0 where
  pub answer : Permit
  pub gate : Gate

-- answers the tag and leaves open; 50 closed, 52 none held while open
unfoldable pub taking : Gate → Taken
taking closed = record { answer = denied 50 0; gate = closed }
taking opened = record { answer = denied 52 0; gate = opened }
taking (holding tag) = record { answer = granted tag; gate = opened }

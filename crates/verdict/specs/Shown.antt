-- the verdict that each answer of the program stands for
use Rattle.std.specs.Prelude.{ℕ, zero, suc, Option, None, Some, Result, Ok, Err, ⊤}
use Rattle.verdict.specs.Verdict.{accepted, refused}
use Rattle.verdict.specs.Verdict as verdicts
use Rattle.verdict.specs.declared.Refusal.{Refusal}

-- what a function answers that only judges
abbrev pub Answer : Type 0
Answer = Result ⊤ (Refusal ℕ)

abbrev pub accepts : Answer
accepts = Ok tt

abbrev pub refusal : {Place : Type 0} → ℕ → Place → Refusal Place
refusal number place = record { number = number; place = place }

abbrev pub refuses : ℕ → ℕ → Answer
refuses number place = Err (refusal number place)

abbrev pub shown : Answer → verdicts.Verdict
shown (Ok done) = accepted
shown (Err r) = refused r.number r.place

-- the number that is earned, where 0 stands for none
abbrev pub earned : ℕ → Option ℕ
earned zero = None
earned (suc n) = Some (suc n)

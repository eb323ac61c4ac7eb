-- what the program's readers answer: a value and the place after it, or a refusal
use Rattle.std.specs.Prelude.{ℕ, Result}
use Rattle.verdict.specs.declared.Refusal.{Refusal}
use Rattle.encoding.specs.declared.Read.{Read}

abbrev pub Parsed : Type 0 → Type 0
Parsed A = Result (Read A) (Refusal ℕ)

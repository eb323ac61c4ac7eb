-- three claims, the model of one state that refutes them, and why none is irrefutable
use Rattle.std.specs.Prelude.{◌≡◌, true, false, ℕ, ◌<◌, length, get_or}
use Rattle.std.proofs.Common.{sym, ap, ◌∙◌, subst, ⊎_elim, true≢false, arith}
use mathlib.Core.List.Memᴰ
use mathlib.Core.List.{List, [], ◌∷◌, Memᴰ}
use Rattle.encoding.specs.File.{good}
use Rattle.encoding.specs.FileLaws.{good_same}
use Rattle.formula.specs.Claim.{Form, Claim, claim_of}
use Rattle.formula.specs.Spelled.{Spelled, records_of}
use Rattle.meaning.specs.States.{Model}
use Rattle.meaning.specs.Meaning.{own}
use Rattle.claim_files.specs.ReadClaim.{read_claim_lem}
use Rattle.claim_files.proofs.ClaimExact.{claim_good}
use Rattle.calculus.specs.Goals.{goal}
use Rattle.demands.specs.Correct.{Refutes, Irrefutable}

-- the name of entry 2, its box, and the mu; member 2
abbrev pub mu_of_box : List ℕ
mu_of_box = 0x43 ∷ 0x4C ∷ 0x4D ∷ 0x31 ∷ 3 ∷ 0 ∷ 1 ∷ 10 ∷ 2 ∷ 0 ∷ 1 ∷ 7 ∷ 0 ∷ 0 ∷ 1 ∷ 8 ∷ 1 ∷ 0 ∷ 1 ∷ 0 ∷ 2 ∷ 0 ∷ []

-- false, and member 0
abbrev pub false_alone : List ℕ
false_alone = 0x43 ∷ 0x4C ∷ 0x4D ∷ 0x31 ∷ 1 ∷ 0 ∷ 0 ∷ 0 ∷ 1 ∷ 0 ∷ 0 ∷ 0 ∷ []

-- true and false, each a goal
abbrev pub second_false : List ℕ
second_false = 0x43 ∷ 0x4C ∷ 0x4D ∷ 0x32 ∷ 2 ∷ 0 ∷ 0 ∷ 1 ∷ 0 ∷ 0 ∷ 2 ∷ 0 ∷ 1 ∷ 0 ∷ 0 ∷ 0 ∷ 1 ∷ 0 ∷ 1 ∷ 0 ∷ []

-- one state, itself as successor by every action
abbrev pub circle : Model
circle = record { size = 1; letter = λ s p. false; succ = λ n s u. true }

-- the one member of a goal is false on the circle: either half of `Irrefutable` then fails
module _ {claim : List ℕ} (f : Form) (t : List Spelled) (goals : List (List ℕ)) (read : read_claim_lem claim ≡ good (record { form = f; spelling = t; goals = goals }))
    (i e : ℕ) (inside : i < length goals) (alone : get_or goals i [] ≡ e ∷ []) (fails : own circle (records_of t) e 0 ≡ false) (k : Irrefutable claim) where
  same : record { form = f; entries = records_of t; goals = goals } ≡ k.read
  same = ap claim_of (good_same (sym read ∙ claim_good k.formed.claim_file)) ∙ sym k.formed.records

  real : i < length k.read.goals
  real = subst (λ (c : Claim). i < length c.goals) same inside

  refutes : Refutes circle k.read.entries 0 (goal k.read i)
  refutes =
      subst (λ (c : Claim). Refutes circle c.entries 0 (goal c i)) same
      (rw alone (λ c m. ⊎_elim (λ (q : c ≡ e). rw q fails) (λ (n : Memᴰ c []). absurd (Memᴰ.not-nil n)) (Memᴰ.cases_cons m)))

  pub no_member_true : ⊥
  no_member_true = let (c, m, q) = k.some_true i real circle 0 (omega arith) in true≢false (sym q ∙ refutes c m)

  pub no_state_refutes : ⊥
  no_state_refutes = k.none_refutes i real circle 0 (omega arith) refutes

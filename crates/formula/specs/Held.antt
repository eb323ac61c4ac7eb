-- a claim and a proof as they are held in plain numbers
use Rattle.std.specs.Prelude.{◌≡◌, ℕ, ◌+◌, ◌<◌, ◌≤◌, length, get_or, take}
use Rattle.std.proofs.Math.Path.{ap}
use Rattle.std.proofs.Common.{◌∙◌, arith}
use mathlib.Core.List.{List, []}
use Rattle.verdict.specs.Lists.{values_from, values_from_length, values_from_at}
use Rattle.formula.specs.Claim.{Form, Claim, Derivation}
use Rattle.formula.specs.Plain.{table_of}
use Rattle.formula.specs.PlainNodes.{codes_at_lem, proof_of}

-- the first k goals: the members of each stand from its start up to the next one's
unfoldable pub goals_of : List ℕ → List ℕ → ℕ → List (List ℕ)
unfolding values_from
goals_of gs ms k = values_from (codes_at_lem gs ms) 0 k

module _ (gs ms : List ℕ) (k : ℕ) where
  pub goals_of_length : length (goals_of gs ms k) ≡ k
  unfolding goals_of
  goals_of_length = values_from_length (codes_at_lem gs ms) 0 k

  pub goals_of_at : (i : ℕ) → i < k → get_or (goals_of gs ms k) i [] ≡ codes_at_lem gs ms i
  unfolding goals_of
  goals_of_at i h = values_from_at (codes_at_lem gs ms) [] 0 k i h ∙ ap (codes_at_lem gs ms) (omega arith)

-- the first n of the columns and the first k goals
abbrev pub held_claim : Form → List ℕ → List ℕ → List ℕ → ℕ → List ℕ → List ℕ → ℕ → Claim
held_claim f ks xs ys n gs ms k = record { form = f; entries = table_of ks xs ys n; goals = goals_of gs ms k }

-- the first m nodes and the first k roots
abbrev pub held_proof : List ℕ → List ℕ → List ℕ → List ℕ → ℕ → List ℕ → ℕ → Derivation
held_proof rs ls ss cs m os k = record { roots = take k os; nodes = proof_of rs ls ss cs m }

-- the starts of k goals rise, and their members are there: 16 goals of 24 fit
pub record GoalsHeld (gs ms : List ℕ) (k : ℕ) : Type 0 where
  pub few : k ≤ 16
  pub starts : k < length gs
  pub room : length ms ≡ 384
  pub placed : (i : ℕ) → i < k → (get_or gs i 0 ≤ get_or gs (i + 1) 0) × (get_or gs (i + 1) 0 ≤ length ms)

-- the claim is held whole
pub record ClaimHeld (c : Claim) (ks xs ys : List ℕ) (n : ℕ) (gs ms : List ℕ) (k : ℕ) : Type 0 where
  pub same : held_claim c.form ks xs ys n gs ms k ≡ c
  pub entries : n ≤ 256
  pub kinds : n ≤ length ks
  pub a_fields : n ≤ length xs
  pub b_fields : n ≤ length ys
  pub goals : GoalsHeld gs ms k

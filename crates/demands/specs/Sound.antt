-- a correct proof is sound: in every finite model every state has a true member of each goal, and of each node's sequent
use Rattle.std.specs.Prelude.{◌≡◌, refl, ◌⊎◌, Bool, true, false, ℕ, ◌<◌, length}
use Rattle.std.proofs.Common.{ap, ◌∙◌, inl, inr, ⊎_elim}
use mathlib.Core.List.Memᴰ
use mathlib.Core.List.{List, [], ◌∷◌, Memᴰ}
use Rattle.verdict.specs.Sets.{elements, ◌⊆◌}
use Rattle.formula.specs.Codes.{entry_of_lem}
use Rattle.formula.specs.Claim.{Claim, SpelledClaim, claim_of, Derivation}
use Rattle.formula.specs.Nodes.{node}
use Rattle.meaning.specs.States.{Model}
use Rattle.meaning.specs.Meaning.{own}
use Rattle.claim_files.specs.ClaimFile.{ClaimFile}
use Rattle.claim_files.proofs.ClaimExact.{one_claim}
use Rattle.calculus.specs.Sequents.{listed}
use Rattle.calculus.specs.Goals.{goal}
use Rattle.calculus.specs.CorrectNodes.{CorrectNodes}
use Rattle.calculus.specs.Falsity.{Falsity}
use Rattle.calculus.specs.Kripke.{kripke}
use Rattle.calculus.proofs.Sound.{goal_not_refuted, no_node_refuted}
use Rattle.demands.specs.Correct.{Correct, Refutes, Irrefutable}
use Rattle.demands.specs.CheckExact.{given}

-- a finite search: no element is true, or some is
all_or_some : (A : ℕ → Bool) (l : List ℕ) → (elements l ⊆ (λ e. A e ≡ false)) ⊎ ((e : ℕ) × elements l e × (A e ≡ true))
all_or_some A [] = inl (λ e m. absurd (Memᴰ.not-nil m))
all_or_some A (x ∷ l) = go (A x) refl (all_or_some A l)
  where
    go : (b : Bool) → A x ≡ b → (elements l ⊆ (λ e. A e ≡ false)) ⊎ ((e : ℕ) × elements l e × (A e ≡ true))
        → (elements (x ∷ l) ⊆ (λ e. A e ≡ false)) ⊎ ((e : ℕ) × elements (x ∷ l) e × (A e ≡ true))
    go true h r = inr (x, Memᴰ.head refl, h)
    go false h (inl f) = inl (λ e m. ⊎_elim (λ (q : e ≡ x). rw q h) (λ (n : Memᴰ e l). f e n) (Memᴰ.cases_cons m))
    go false h (inr (e, m, q)) = inr (e, Memᴰ.tail m, q)

some_true : (A : ℕ → Bool) (l : List ℕ) → (elements l ⊆ (λ e. A e ≡ false) → ⊥) → (e : ℕ) × elements l e × (A e ≡ true)
some_true A l not-all = ⊎_elim (λ f. absurd (not-all f)) (λ x. x) (all_or_some A l)

module _ {claim proof : List ℕ} (k : Correct claim proof) where
  abbrev c : Claim
  c = k.read.claim

  abbrev d : Derivation
  d = k.read.beside

  tables : CorrectNodes c d
  tables = record { members = (given k.formed).members; tree = k.tree; keeps = k.keeps; loops = k.loops }

  module _ (M : Model) (s : ℕ) (state : s < M.size) where
    abbrev F : Falsity c.entries M
    F = kripke c.entries k.formed.claim_formed.formed.well M

    pub none_refutes : (i : ℕ) → i < length c.goals → Refutes M c.entries s (goal c i) → ⊥
    unfolding kripke
    none_refutes i h f = goal_not_refuted c F d tables (given k.formed) k.root i h s state (λ e m. f e m)

    -- every node, not only the roots
    pub node_true : (v : ℕ) → v < length d.nodes → (x : ℕ) × listed d.nodes v x × (own M c.entries (entry_of_lem x) s ≡ true)
    unfolding kripke
    node_true v real =
        some_true (λ x. own M c.entries (entry_of_lem x) s) (node d.nodes v).codes
        (λ f. no_node_refuted c F d tables v real s (record { inside = state; all = λ x m. f x m }))

    pub member_true : (i : ℕ) → i < length c.goals → (e : ℕ) × elements (goal c i) e × (own M c.entries e s ≡ true)
    member_true i h = some_true (λ e. own M c.entries e s) (goal c i) (none_refutes i h)

  -- demand 3, first half
  pub sound : Irrefutable claim
  sound = record {
    read = c;
    formed = k.formed.claim_formed;
    some_true = λ i l M s h. member_true M s h i l;
    none_refutes = λ i l M s h f. none_refutes M s h i l f;
  }

-- of whatever claim the file encodes: there is one only
pub irrefutable_true : {claim : List ℕ} → Irrefutable claim → (c : SpelledClaim) → ClaimFile claim c
    → (i : ℕ) → i < length c.goals → (M : Model) (s : ℕ) → s < M.size → (e : ℕ) × elements (goal (claim_of c) i) e × (own M (claim_of c).entries e s ≡ true)
irrefutable_true k c f =
    let same : k.read ≡ claim_of c = k.formed.records ∙ ap claim_of (one_claim k.formed.claim_file f) in
    rw same at k.some_true

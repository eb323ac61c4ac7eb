-- how far a text is well formed, and what is wrong there: too few bytes for what comes next, or bytes that may not come next
use Rattle.std.specs.Prelude.{◌≡◌, ◌⊎◌, List, [], ◌∷◌, ◌++◌, Bool, true, ℕ, ◌+◌, ◌<◌, length}
use Rattle.std.proofs.Common.{inl, inr}
use Rattle.verdict.specs.Lists.{Each, Rising}
use Rattle.encoding.specs.Encode.{encode_all}
use Rattle.encoding.specs.Chain.{Chain, last}

pub record Stages : Type 1 where
  -- what comes next, after what has been read
  pub Stage : Type 0
  -- the bytes read
  pub done : Stage → List ℕ
  -- they are well formed
  pub Reached : Stage → Type 0
  -- at least so many bytes come next
  pub width : Stage → ℕ
  -- bytes that may not come next, and the number that they earn
  pub Wrong : Stage → List ℕ → ℕ → Type 0

-- the fault that these bytes, which stand at this place, have: its number and its place
pub data Stopped (early : ℕ) (X : Stages) (s : List ℕ) (at : ℕ) : ℕ → ℕ → Type 0 where
  -- the file ends early: its length
  ends_early : (σ : X.Stage) (t : List ℕ) → X.Reached σ → s ≡ X.done σ ++ t → length t < X.width σ → Stopped early X s at early (at + length s)
  -- what may not come next: its place
  wrong : (σ : X.Stage) (w t : List ℕ) {n : ℕ} → X.Reached σ → s ≡ X.done σ ++ (w ++ t) → X.Wrong σ w n → Stopped early X s at n (at + length (X.done σ))

-- w bytes, whatever they are
abbrev pub raw : ℕ → Stages
raw w = record { Stage = Unit; done = λ _. []; Reached = λ _. Unit; width = λ _. w; Wrong = λ _ _ _. ⊥ }

-- an encoded value that fails its test
pub data Unfit {A : Type 0} (e : A → List ℕ) (P Q : A → Type 0) (number : ℕ) : List ℕ → ℕ → Type 0 where
  unfit : (x : A) → P x → (Q x → ⊥) → Unfit e P Q number (e x) number

-- a value of at least w bytes, with a test
abbrev pub tested : {A : Type 0} → ℕ → (A → List ℕ) → (P Q : A → Type 0) → ℕ → Stages
tested w e P Q k = record { Stage = Unit; done = λ _. []; Reached = λ _. Unit; width = λ _. w; Wrong = λ _. Unfit e P Q k }

abbrev either {ℓ} : {A B : Type 0} {C : Type ℓ} → (A → C) → (B → C) → A ⊎ B → C
either f g (inl x) = f x
either f g (inr y) = g y

-- the stages of the one and those of the other
abbrev pub joined : Stages → Stages → Stages
joined X Y = record {
  Stage = X.Stage ⊎ Y.Stage;
  done = either X.done Y.done;
  Reached = either X.Reached Y.Reached;
  width = either X.width Y.width;
  Wrong = either X.Wrong Y.Wrong;
}

-- the stages of what follows an encoded value
abbrev pub after : {A : Type 0} → (A → List ℕ) → (A → Type 0) → (A → Stages) → Stages
after {A} e P Y = record {
  Stage = (x : A) × (Y x).Stage;
  done = λ z. e z.0 ++ (Y z.0).done z.1;
  Reached = λ z. P z.0 × (Y z.0).Reached z.1;
  width = λ z. (Y z.0).width z.1;
  Wrong = λ z. (Y z.0).Wrong z.1;
}

-- the stages of what stands only where its bit does
abbrev pub present : Bool → Stages → Stages
present b X = record {
  Stage = X.Stage;
  done = X.done;
  Reached = λ σ. (b ≡ true) × X.Reached σ;
  width = X.width;
  Wrong = X.Wrong;
}

-- one text, then another
abbrev pub followed : {A : Type 0} → (A → List ℕ) → (A → Type 0) → Stages → (A → Stages) → Stages
followed e P X Y = joined X (after e P Y)

-- one of m values, each in sight of a number that the one before sets
abbrev pub items : {A : Type 0} → (A → List ℕ) → (ℕ → A → Type 0) → (ℕ → A → ℕ) → (ℕ → Stages) → ℕ → ℕ → Stages
items {A} e P next X m c = after (encode_all e) (λ (l : List A). (length l < m) × Chain P next c l) (λ l. X (last next c l))

-- a count, then as many values that do not look at each other
abbrev pub listing : {A : Type 0} → (ℕ → List ℕ) → (ℕ → Type 0) → Stages → (A → List ℕ) → (A → Type 0) → Stages → Stages
listing {A} ec C K e P X = followed ec C K (λ m. after (encode_all e) (λ (l : List A). (length l < m) × Each P l) (λ _. X))

-- a count, then as many numbers of w bytes that pass a test and rise strictly
abbrev pub climbing : (ℕ → List ℕ) → (ℕ → Type 0) → Stages → ℕ → (ℕ → List ℕ) → (P Q : ℕ → Type 0) → ℕ → Stages
climbing ec C K w e P Q k =
    followed ec C K
    (λ m. after (encode_all e) (λ (l : List ℕ). (length l < m) × Rising l × Each (λ x. P x × Q x) l)
    (λ l. tested w e P (λ x. Rising (l ++ (x ∷ [])) × Q x) k))

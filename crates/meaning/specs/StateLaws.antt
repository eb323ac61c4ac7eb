-- the order of sets, and how each connective keeps it
use Rattle.std.specs.Prelude.{◌≡◌, refl, false, not, ℕ, ◌<◌}
use Rattle.std.proofs.Common.{sym, ◌∙◌, ap, subst}
use Rattle.std.proofs.lemmas.Bool.{false≢true}
use Rattle.meaning.specs.Truth.{or_mono, and_mono, both_ways, false_below, some_mono, every_mono}
use Rattle.formula.specs.Shape.{Two, or, and, Step, diamond, box, Fix, mu, nu}
use Rattle.meaning.specs.States.{Model, StateSet, Sub, SameStates, two_set, step_set, start}
use Rattle.meaning.specs.Chain.{Bounded}
use Rattle.meaning.specs.Bounds.{each, reverse, truth_bounded, sum_ones}

module _ {n : ℕ} where
  pub sub_refl : (A : StateSet) → Sub n A A
  sub_refl A s l h = h

  pub sub_trans : {A B C : StateSet} → Sub n A B → Sub n B C → Sub n A C
  sub_trans p q s l h = q s l (p s l h)

  pub same_sub : {A B : StateSet} → SameStates n A B → Sub n A B
  same_sub p s l h = sym (p s l) ∙ h

  pub same_sym : {A B : StateSet} → SameStates n A B → SameStates n B A
  same_sym p s l = sym (p s l)

  pub same_trans : {A B C : StateSet} → SameStates n A B → SameStates n B C → SameStates n A C
  same_trans p q s l = p s l ∙ q s l

  pub same_both : {A B : StateSet} → Sub n A B → Sub n B A → SameStates n A B
  same_both {A} {B} p q s l = both_ways (A s) (B s) (p s l) (q s l)

  pub path_same : {A B : StateSet} → A ≡ B → SameStates n A B
  path_same p s l = ap (λ (C : StateSet). C s) p

  pub sub_false : {A B : StateSet} → Sub n A B → (s : ℕ) → s < n → B s ≡ false → A s ≡ false
  sub_false {A} {B} p s l = false_below (A s) (B s) (p s l)

-- the way that a fixpoint's iteration goes: a mu's rises, a nu's falls
abbrev pub Toward : ℕ → Fix → StateSet → StateSet → Type 0
Toward n mu A B = Sub n A B
Toward n nu A B = Sub n B A

-- each can be left at most n times
sub_bounded : (n : ℕ) → Bounded (Sub n) n
sub_bounded n = subst (λ (k : ℕ). Bounded (Sub n) k) (sum_ones n) (each truth_bounded n)

pub toward_bounded : (n : ℕ) (σ : Fix) → Bounded (Toward n σ) n
toward_bounded n mu = sub_bounded n
toward_bounded n nu = reverse (sub_bounded n)

pub toward_both : (n : ℕ) (σ : Fix) (A B : StateSet) → Toward n σ A B → Toward n σ B A → SameStates n A B
toward_both n mu A B p q = same_both p q
toward_both n nu A B p q = same_both q p

pub toward_mono : (n : ℕ) (σ : Fix) (f : StateSet → StateSet) → ((A B : StateSet) → Sub n A B → Sub n (f A) (f B))
    → (A B : StateSet) → Toward n σ A B → Toward n σ (f A) (f B)
toward_mono n mu f g A B = g A B
toward_mono n nu f g A B = g B A

pub start_first : (n : ℕ) (σ : Fix) (A : StateSet) → Toward n σ (start σ) A
unfolding start
start_first n mu A = λ s l h. absurd (false≢true h)
start_first n nu A = λ s l h. refl

pub two_mono : (o : Two) {n : ℕ} {A B C D : StateSet} → Sub n A C → Sub n B D → Sub n (two_set o A B) (two_set o C D)
unfolding two_set
two_mono or {A} {B} {C} {D} p q = λ s l. or_mono (A s) (B s) (C s) (D s) (p s l) (q s l)
two_mono and {A} {B} {C} {D} p q = λ s l. and_mono (A s) (B s) (C s) (D s) (p s l) (q s l)

pub step_mono : (M : Model) (m : Step) {A B : StateSet} → Sub M.size A B → Sub M.size (step_set M m A) (step_set M m B)
unfolding step_set
step_mono M (diamond n) {A} {B} p =
    λ s l. some_mono M.size _ _ (λ u k. and_mono (M.succ n s u) (A u) (M.succ n s u) (B u) (λ e. e) (p u k))
step_mono M (box n) {A} {B} p =
    λ s l. every_mono M.size _ _ (λ u k. or_mono (not (M.succ n s u)) (A u) (not (M.succ n s u)) (B u) (λ e. e) (p u k))

-- the same for equal sets
pub two_same : (o : Two) {n : ℕ} {A B C D : StateSet} → SameStates n A C → SameStates n B D → SameStates n (two_set o A B) (two_set o C D)
two_same o p q = same_both (two_mono o (same_sub p) (same_sub q)) (two_mono o (same_sub (same_sym p)) (same_sub (same_sym q)))

pub step_same : (M : Model) (m : Step) {A B : StateSet} → SameStates M.size A B → SameStates M.size (step_set M m A) (step_set M m B)
step_same M m p = same_both (step_mono M m (same_sub p)) (step_mono M m (same_sub (same_sym p)))

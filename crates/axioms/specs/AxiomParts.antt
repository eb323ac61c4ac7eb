-- the axioms' tests as the code makes them: by the first member, and the first that is another
use Rattle.std.specs.Prelude.{◌≡◌, ◌≢◌, ◌⊎◌, Bool, true, false, ◌&&◌, ◌||◌, ℕ, zero, suc, ◌+◌, ◌<◌, ◌≤◌, eqb, length, get_or}
use Rattle.std.proofs.Math.Path.{refl, sym, ap}
use Rattle.std.proofs.Common.{ap₂, ◌∙◌, inr, le_of_suc-le-suc, arith, eq-eqb, ne_eqb}
use Rattle.std.proofs.Math.Logic.{inl}
use mathlib.Core.List.Memᴰ
use mathlib.Core.List.{List, [], ◌∷◌}
use Rattle.verdict.specs.Sets.{elements, ◌⊆◌}
use Rattle.verdict.specs.Tests.{all, choose, each}
use Rattle.verdict.specs.Tells.{Tells, tells_as, tells_self, fails, fails_holds, eqb_tells, and_tells, or_tells, same_test}
use Rattle.verdict.specs.SetTells.{all_tells, any_tells, lists_each}
use Rattle.formula.specs.Kind
use Rattle.formula.specs.Table.{Table, kind, entry}
use Rattle.formula.specs.Codes.{entry_of_lem}
use Rattle.calculus.specs.Judge.{opposite, clash, truth}
use Rattle.sequents.specs.Part.{part, part_none, part-more, at_place}
use Rattle.sequents.specs.Keys.{key_of_lem, keys_of}

abbrev pub one_of : ℕ → ℕ → ℕ → Bool
one_of x y c = eqb c x || eqb c y

-- the place of the first number other than x, else the end
unfoldable pub first_other : ℕ → List ℕ → ℕ
first_other x [] = 0
first_other x (y ∷ l) =
    let rest = first_other x l in
    choose (eqb y x) (suc rest) 0

first-none : (x : ℕ) (l : List ℕ) → first_other x l ≡ length l → elements l ⊆ (λ c. c ≡ x)
unfolding first_other
first-none x [] e c m = absurd (Memᴰ.not-nil m)
first-none x (y ∷ l) e c m = go (eqb y x) (eqb_tells y x) e m (λ q. first-none x l q c)
  where
    go : (b : Bool) → Tells b (y ≡ x) → choose b (suc (first_other x l)) 0 ≡ suc (length l) → elements (y ∷ l) c
        → (first_other x l ≡ length l → elements l c → c ≡ x) → c ≡ x
    go true z e (Memᴰ.head q) ih = q ∙ z.says refl
    go true z e (Memᴰ.tail m) ih = ih (omega arith) m
    go false z e m ih = absurd (omega arith)

first_other_lem : (x : ℕ) (l : List ℕ) → first_other x l < length l → get_or l (first_other x l) 0 ≢ x
unfolding first_other
first_other_lem x [] h = absurd (omega arith)
first_other_lem x (y ∷ l) h = go (eqb y x) (eqb_tells y x) h (first_other_lem x l)
  where
    go : (b : Bool) → Tells b (y ≡ x) → choose b (suc (first_other x l)) 0 < suc (length l)
        → (first_other x l < length l → get_or l (first_other x l) 0 ≢ x) → get_or (y ∷ l) (choose b (suc (first_other x l)) 0) 0 ≢ x
    go true z h ih = ih (le_of_suc-le-suc h)
    go false z h ih = fails z refl

first_within : (x : ℕ) (l : List ℕ) → first_other x l ≤ length l
unfolding first_other
first_within x [] = omega arith
first_within x (y ∷ l) = go (eqb y x) (first_within x l)
  where
    go : (b : Bool) → first_other x l ≤ length l → choose b (suc (first_other x l)) 0 ≤ suc (length l)
    go true h = omega arith
    go false h = omega arith

each-length : (f : ℕ → ℕ) (l : List ℕ) → length (each f l) ≡ length l
unfolding each
each-length f [] = refl
each-length f (x ∷ l) = ap suc (each-length f l)

each_get_d : (f : ℕ → ℕ) (l : List ℕ) (k : ℕ) → k < length l → get_or (each f l) k 0 ≡ f (get_or l k 0)
unfolding each
each_get_d f [] k h = absurd (omega arith)
each_get_d f (x ∷ l) zero h = refl
each_get_d f (x ∷ l) (suc k) h = each_get_d f l k (le_of_suc-le-suc h)

-- members of a part of the codes, by their keys
module _ (ns cs : List ℕ) (i j : ℕ) (k : j ≤ length cs) where
  pub keys_more : i < j → keys_of ns (part cs i j) ≡ key_of_lem ns (get_or cs i 0) ∷ keys_of ns (part cs (i + 1) j)
  unfolding each
  keys_more h = ap (λ (l : List ℕ). keys_of ns l) (part-more cs i j h k)

  pub keys_none : j ≤ i → keys_of ns (part cs i j) ≡ []
  unfolding each
  keys_none h = ap (λ (l : List ℕ). keys_of ns l) (part_none cs i j h)

module _ (t : Table) where
  opposite_tells : (c d : ℕ) → Tells (opposite t c d)
      ((kind t (entry_of_lem c) ≡ Kind.LETTER) × ((kind t (entry_of_lem d) ≡ Kind.NEGATED) × ((entry t (entry_of_lem c)).a ≡ (entry t (entry_of_lem d)).a)))
  unfolding opposite
  opposite_tells c d = and_tells (eqb_tells _ _) (and_tells (eqb_tells _ _) (eqb_tells _ _))

  apart : (c : ℕ) → opposite t c c ≡ true → ⊥
  apart c h = let (p, (n, _)) = (opposite_tells c c).says h in absurd (omega (arith, p, n))

  -- all are one of two opposites
  abbrev Opposites : List ℕ → ℕ → ℕ → Type 0
  Opposites l c d = (opposite t c d ≡ true) × (elements l ⊆ (λ x. (x ≡ c) ⊎ (x ≡ d)))

  clash_tells : (l : List ℕ) → Tells (clash t l) ((c : ℕ) × elements l c × ((d : ℕ) × elements l d × Opposites l c d))
  unfolding clash
  clash_tells l = any_tells (λ c. any_tells (λ d. and_tells (tells_self (opposite t c d)) (all_tells (λ x. or_tells (eqb_tells x c) (eqb_tells x d)) l)) l) l

  -- one member is no letter and its negation
  pub clash_alone : (l : List ℕ) (x : ℕ) → elements l ⊆ (λ c. c ≡ x) → clash t l ≡ false
  clash_alone l x f = fails_holds (clash_tells l) (λ (c, m, (d, k, (o, _))). apart x (sym (ap₂ {C = Bool} (opposite t) (f c m) (f d k)) ∙ o))

  -- two are when they are all, and opposite
  pub clash_pair : (l : List ℕ) (x y : ℕ) → elements l x → elements l y → y ≢ x → clash t l ≡ (all (one_of x y) l && (opposite t x y || opposite t y x))
  clash_pair l x y mx my n = same_test (clash_tells l)
      (tells_as into (λ (c, m, (d, k, (o, f))). from c d o f (f x mx) (f y my))
      (and_tells (all_tells (λ c. or_tells (eqb_tells c x) (eqb_tells c y)) l) (or_tells (tells_self (opposite t x y)) (tells_self (opposite t y x)))))
    where
      swap : {A B : Type 0} → A ⊎ B → B ⊎ A
      swap (inl a) = inr a
      swap (inr b) = inl b

      into : (elements l ⊆ (λ c. (c ≡ x) ⊎ (c ≡ y))) × ((opposite t x y ≡ true) ⊎ (opposite t y x ≡ true))
          → (c : ℕ) × elements l c × ((d : ℕ) × elements l d × Opposites l c d)
      into (f, inl o) = (x, mx, (y, my, (o, f)))
      into (f, inr o) = (y, my, (x, mx, (o, λ c m. swap (f c m))))

      from : (c d : ℕ) → opposite t c d ≡ true → (elements l ⊆ (λ z. (z ≡ c) ⊎ (z ≡ d))) → (x ≡ c) ⊎ (x ≡ d) → (y ≡ c) ⊎ (y ≡ d)
          → (elements l ⊆ (λ z. (z ≡ x) ⊎ (z ≡ y))) × ((opposite t x y ≡ true) ⊎ (opposite t y x ≡ true))
      from c d o f (inl p) (inl q) = absurd (n (q ∙ sym p))
      from c d o f (inl p) (inr q) = rw (p, q) (f, inl o)
      from c d o f (inr p) (inl q) = rw (p, q) ((λ z m. swap (f z m)), inr o)
      from c d o f (inr p) (inr q) = absurd (n (q ∙ sym p))

  pub truth_one : (l : List ℕ) (x : ℕ) → elements l x → truth t l ≡ (eqb (kind t (entry_of_lem x)) Kind.TRUE && all (one_of x x) l)
  unfolding truth
  truth_one l x mx = same_test
      (any_tells (λ c. and_tells (eqb_tells (kind t (entry_of_lem c)) Kind.TRUE) (all_tells (λ z. eqb_tells z c) l)) l)
      (tells_as (λ (k, f). (x, mx, (k, λ z m. either (f z m)))) (λ (c, m, (k, f)). (rw (f x mx) k, λ z h. inl (f z h ∙ sym (f x mx))))
      (and_tells (eqb_tells (kind t (entry_of_lem x)) Kind.TRUE) (all_tells (λ c. or_tells (eqb_tells c x) (eqb_tells c x)) l)))
    where
      either : {A : Type 0} → A ⊎ A → A
      either (inl a) = a
      either (inr a) = a

  pub none_axiom : (clash t [] ≡ false) × (truth t [] ≡ false)
  unfolding clash truth
  none_axiom = (refl, refl)

-- a walk over the members of a part, at its first code
module _ (ns cs : List ℕ) (i j : ℕ) (h : i < j) (k : j ≤ length cs) where
  pub only_on : (x y : ℕ) → one_of x y (key_of_lem ns (get_or cs i 0)) ≡ true → all (one_of x y) (keys_of ns (part cs i j)) ≡ all (one_of x y) (keys_of ns (part cs (i + 1) j))
  unfolding all
  only_on x y e = rw (keys_more ns cs i j k h) (rw e refl)

  pub only_stop : (x y : ℕ) → one_of x y (key_of_lem ns (get_or cs i 0)) ≡ false → all (one_of x y) (keys_of ns (part cs i j)) ≡ false
  unfolding all
  only_stop x y e = rw (keys_more ns cs i j k h) (rw e refl)

  pub other_on : (x : ℕ) → key_of_lem ns (get_or cs i 0) ≡ x → first_other x (keys_of ns (part cs i j)) ≡ suc (first_other x (keys_of ns (part cs (i + 1) j)))
  unfolding first_other
  other_on x e = rw (keys_more ns cs i j k h) (rw (eq-eqb _ _ e) refl)

  pub other_here : (x : ℕ) → key_of_lem ns (get_or cs i 0) ≢ x → first_other x (keys_of ns (part cs i j)) ≡ 0
  unfolding first_other
  other_here x d = rw (keys_more ns cs i j k h) (rw (ne_eqb _ _ d) refl)

module _ (ns cs : List ℕ) (i j : ℕ) (h : j ≤ i) (k : j ≤ length cs) where
  pub only_end : (x y : ℕ) → all (one_of x y) (keys_of ns (part cs i j)) ≡ true
  unfolding all
  only_end x y = rw (keys_none ns cs i j k h) refl

  pub other_end : (x : ℕ) → first_other x (keys_of ns (part cs i j)) ≡ 0
  unfolding first_other
  other_end x = rw (keys_none ns cs i j k h) refl

-- the members of codes as they stand
pub few_alike : (l : List ℕ) → length l < 2 → elements l ⊆ (λ c. c ≡ get_or l 0 0)
few_alike [] h c m = absurd (Memᴰ.not-nil m)
few_alike (x ∷ []) h c (Memᴰ.head q) = q
few_alike (x ∷ []) h c (Memᴰ.tail m) = absurd (Memᴰ.not-nil m)
few_alike (x ∷ (y ∷ l)) h c m = absurd (omega arith)

pub keys_few : (ns cs : List ℕ) → length cs < 2 → elements (keys_of ns cs) ⊆ (λ c. c ≡ get_or (keys_of ns cs) 0 0)
keys_few ns cs h = few_alike (keys_of ns cs) (omega (arith, each-length (key_of_lem ns) cs))

module _ (ns cs : List ℕ) where
  keys_length : length (keys_of ns cs) ≡ length cs
  keys_length = each-length (key_of_lem ns) cs

  pub key_member : (m : ℕ) → m < length cs → elements (keys_of ns cs) (key_of_lem ns (get_or cs m 0))
  key_member m h = (lists_each (key_of_lem ns) cs).from _ (get_or cs m 0, at_place cs m 0 h, refl)

  -- the first place with another member: within, and what stands there
  pub other_within : (x : ℕ) → first_other x (keys_of ns cs) ≤ length cs
  other_within x = omega (arith, keys_length, first_within x (keys_of ns cs))

  pub other_none : (x : ℕ) → first_other x (keys_of ns cs) ≡ length cs → elements (keys_of ns cs) ⊆ (λ c. c ≡ x)
  other_none x e = first-none x (keys_of ns cs) (omega (arith, keys_length))

  pub other_key : (x : ℕ) → first_other x (keys_of ns cs) < length cs → key_of_lem ns (get_or cs (first_other x (keys_of ns cs)) 0) ≢ x
  other_key x h e = first_other_lem x (keys_of ns cs) (omega (arith, keys_length)) (each_get_d (key_of_lem ns) cs _ h ∙ e)

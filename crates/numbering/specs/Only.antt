-- the numbers of a list that pass a test, in their order, and the marks that say which do
use Rattle.std.specs.Prelude.{◌≡◌, refl, ◌≢◌, Bool, true, false, List, [], ◌∷◌, ◌++◌, ℕ, zero, suc, ◌+◌, ◌<◌, ◌≤◌, length, take}
use Rattle.std.proofs.Common.{sym, ap, ap₂, ◌∙◌, true≢false, arith}
use Rattle.std.proofs.lemmas.Bool.{false≢true}
use Rattle.std.proofs.Math.Decide.{ℕ_discrete}
use Rattle.verdict.specs.Tests.{keep}
use Rattle.verdict.specs.Lists.{Each, none, more}
use Rattle.written.specs.Binding.{Unbound}

unfoldable pub only : (ℕ → Bool) → List ℕ → List ℕ
only p [] = []
only p (y ∷ l) = let rest = only p l in keep (p y) y rest

unfoldable pub marks : (ℕ → Bool) → List ℕ → List Bool
marks p [] = []
marks p (y ∷ l) = p y ∷ marks p l

-- n numbers from i on
unfoldable pub range : ℕ → ℕ → List ℕ
range i zero = []
range i (suc n) = i ∷ range (suc i) n

-- every number passes
abbrev pub All : (ℕ → Bool) → List ℕ → Type 0
All q l = Each (λ x. q x ≡ true) l

-- no number stands twice
abbrev pub Distinct : List ℕ → Type 0
Distinct [] = Unit {0}
Distinct (y ∷ l) = Unbound l y × Distinct l

-- what passes

pub only_passes : (q : ℕ → Bool) (l : List ℕ) → All q (only q l)
unfolding only
only_passes q [] = none
only_passes q (y ∷ l) = go (q y) refl (only_passes q l)
  where
    go : (b : Bool) → q y ≡ b → All q (only q l) → All q (keep b y (only q l))
    go true e h = more e h
    go false e h = h

pub take_passes : (q : ℕ → Bool) (k : ℕ) (l : List ℕ) → All q l → All q (take k l)
take_passes q zero l h = none
take_passes q (suc k) [] h = none
take_passes q (suc k) (y ∷ l) (more e h) = more e (take_passes q k l h)

pub passes_too : (q r : ℕ → Bool) (l : List ℕ) → ((x : ℕ) → q x ≡ true → r x ≡ true) → All q l → All r l
passes_too q r [] f h = none
passes_too q r (y ∷ l) f (more e h) = more (f y e) (passes_too q r l f h)

pub only_all : (q : ℕ → Bool) (l : List ℕ) → All q l → only q l ≡ l
unfolding only
only_all q [] h = refl
only_all q (y ∷ l) (more e h) = rw e (ap (λ (m : List ℕ). y ∷ m) (only_all q l h))

-- one mark for each number

pub length_marks : (q : ℕ → Bool) (l : List ℕ) → length (marks q l) ≡ length l
unfolding marks
length_marks q [] = refl
length_marks q (y ∷ l) = ap suc (length_marks q l)

pub append_marks : (q : ℕ → Bool) (l m : List ℕ) → marks q (l ++ m) ≡ marks q l ++ marks q m
unfolding marks
append_marks q [] m = refl
append_marks q (y ∷ l) m = ap (λ (b : List Bool). q y ∷ b) (append_marks q l m)

pub take_marks : (q : ℕ → Bool) (k : ℕ) (l : List ℕ) → marks q (take k l) ≡ take k (marks q l)
unfolding marks
take_marks q zero l = refl
take_marks q (suc k) [] = refl
take_marks q (suc k) (y ∷ l) = ap (λ (b : List Bool). q y ∷ b) (take_marks q k l)

pub all_marks : (q r : ℕ → Bool) (l m : List ℕ) → All q l → All r m → length l ≡ length m → marks q l ≡ marks r m
unfolding marks
all_marks q r [] [] a b h = refl
all_marks q r [] (z ∷ m) a b h = absurd (omega arith)
all_marks q r (y ∷ l) [] a b h = absurd (omega arith)
all_marks q r (y ∷ l) (z ∷ m) (more e a) (more d b) h = ap₂ {C = List Bool} (λ x w. x ∷ w) (e ∙ sym d) (all_marks q r l m a b (omega arith))

-- one test after another

pub only_only : (q r : ℕ → Bool) (l : List ℕ) → ((x : ℕ) → q x ≡ true → r x ≡ true) → only q (only r l) ≡ only q l
unfolding only
only_only q r [] f = refl
only_only q r (y ∷ l) f = go (r y) refl (q y) refl (only_only q r l f)
  where
    go : (b : Bool) → r y ≡ b → (c : Bool) → q y ≡ c → only q (only r l) ≡ only q l → only q (keep b y (only r l)) ≡ keep (q y) y (only q l)
    go true e c d h = ap (λ (m : List ℕ). keep (q y) y m) h
    go false e true d h = absurd (false≢true (sym e ∙ f y d))
    go false e false d h = rw d h

pub only_local : (q r : ℕ → Bool) (l : List ℕ) → ((x : ℕ) → q x ≡ r x) → only q l ≡ only r l
unfolding only
only_local q r [] f = refl
only_local q r (y ∷ l) f = rw (f y) (ap (λ (m : List ℕ). keep (r y) y m) (only_local q r l f))

-- what passes of a beginning is a beginning of what passes
pub only_take : (q : ℕ → Bool) (k : ℕ) (l : List ℕ) → only q (take k l) ≡ take (length (only q (take k l))) (only q l)
unfolding only
only_take q zero l = refl
only_take q (suc k) [] = refl
only_take q (suc k) (y ∷ l) = go (q y) (only_take q k l)
  where
    go : (b : Bool) → only q (take k l) ≡ take (length (only q (take k l))) (only q l)
        → keep b y (only q (take k l)) ≡ take (length (keep b y (only q (take k l)))) (keep b y (only q l))
    go true h = ap (λ (m : List ℕ). y ∷ m) h
    go false h = h

-- as many pass as marks say

counted : List Bool → ℕ
counted [] = 0
counted (true ∷ b) = suc (counted b)
counted (false ∷ b) = counted b

only_counted : (q : ℕ → Bool) (l : List ℕ) → length (only q l) ≡ counted (marks q l)
unfolding only marks counted
only_counted q [] = refl
only_counted q (y ∷ l) = go (q y) (only_counted q l)
  where
    go : (b : Bool) → length (only q l) ≡ counted (marks q l) → length (keep b y (only q l)) ≡ counted (b ∷ marks q l)
    go true h = ap suc h
    go false h = h

pub same_count : (q r : ℕ → Bool) (l m : List ℕ) → marks q l ≡ marks r m → length (only q l) ≡ length (only r m)
same_count q r l m h = only_counted q l ∙ ap counted h ∙ sym (only_counted r m)

-- numbers that do not stand in a list

pub only_unbound : (q : ℕ → Bool) (l : List ℕ) (x : ℕ) → Unbound l x → Unbound (only q l) x
unfolding only
only_unbound q [] x u = tt
only_unbound q (y ∷ l) x (n, u) = go (q y) (only_unbound q l x u)
  where
    go : (b : Bool) → Unbound (only q l) x → Unbound (keep b y (only q l)) x
    go true w = (n, w)
    go false w = w

pub only_distinct : (q : ℕ → Bool) (l : List ℕ) → Distinct l → Distinct (only q l)
unfolding only
only_distinct q [] d = tt
only_distinct q (y ∷ l) (u, d) = go (q y) (only_distinct q l d)
  where
    go : (b : Bool) → Distinct (only q l) → Distinct (keep b y (only q l))
    go true w = (only_unbound q l y u, w)
    go false w = w

take_unbound : (k : ℕ) (l : List ℕ) (x : ℕ) → Unbound l x → Unbound (take k l) x
take_unbound zero l x u = tt
take_unbound (suc k) [] x u = tt
take_unbound (suc k) (y ∷ l) x (n, u) = (n, take_unbound k l x u)

pub take_distinct : (k : ℕ) (l : List ℕ) → Distinct l → Distinct (take k l)
take_distinct zero l d = tt
take_distinct (suc k) [] d = tt
take_distinct (suc k) (y ∷ l) (u, d) = (take_unbound k l y u, take_distinct k l d)

range_unbound : (i n x : ℕ) → x < i → Unbound (range i n) x
unfolding range
range_unbound i zero x h = tt
range_unbound i (suc n) x h = (λ e. omega arith, range_unbound (suc i) n x (omega arith))

pub range_distinct : (i n : ℕ) → Distinct (range i n)
unfolding range
range_distinct i zero = tt
range_distinct i (suc n) = (range_unbound (suc i) n i (omega arith), range_distinct (suc i) n)

pub fails_unbound : (q : ℕ → Bool) (l : List ℕ) (x : ℕ) → All q l → q x ≡ false → Unbound l x
fails_unbound q [] x h e = tt
fails_unbound q (y ∷ l) x (more k h) e = (λ z. true≢false (sym k ∙ ap q (sym z) ∙ e), fails_unbound q l x h e)

-- e is the first that passes q, and r is q but for e
pub first_more : (q r : ℕ → Bool) (e : ℕ) → q e ≡ true → r e ≡ false → ((x : ℕ) → x < e → q x ≡ false) → ((x : ℕ) → x ≢ e → q x ≡ r x)
    → (n i : ℕ) → i ≤ e → e < i + n → only q (range i n) ≡ e ∷ only r (range i n)
unfolding only range
first_more q r e a b f g zero i h l = absurd (omega arith)
first_more q r e a b f g (suc n) i h l = go (ℕ_discrete i e) (first_more q r e a b f g n (suc i))
  where
    past : (n i : ℕ) → e < i → only q (range i n) ≡ only r (range i n)
    past zero i h = refl
    past (suc n) i h = rw (g i (λ z. omega arith)) (ap (λ (m : List ℕ). keep (r i) i m) (past n (suc i) (omega arith)))

    go : Dec (i ≡ e) → (suc i ≤ e → e < suc i + n → only q (range (suc i) n) ≡ e ∷ only r (range (suc i) n))
        → keep (q i) i (only q (range (suc i) n)) ≡ e ∷ keep (r i) i (only r (range (suc i) n))
    go (yes z) ih = rw (z, a, b) (ap (λ (m : List ℕ). e ∷ m) (past n (suc e) (omega arith)))
    go (no z) ih =
        let fails : q i ≡ false = f i (omega arith) in
        rw (fails, sym (g i z) ∙ fails) (ih (omega arith) (omega arith))

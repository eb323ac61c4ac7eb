-- a part of a list, from a place up to another
use Rattle.std.specs.Prelude.{◌≡◌, refl, List, [], ◌∷◌, ℕ, zero, suc, ◌+◌, ◌-◌, ◌<◌, ◌≤◌, length, get_or, take, drop}
use Rattle.std.proofs.Common.{ap, sym, ◌∙◌, subst, le_of_suc-le-suc, arith, length-take, length-drop, drop-cons, get_or-take, get_or-drop}
use Rattle.std.proofs.Math.Seq.{take-length}
use mathlib.Core.List.Memᴰ
use Rattle.verdict.specs.Sets.{elements}

abbrev pub part : List ℕ → ℕ → ℕ → List ℕ
part l i j = take (j - i) (drop i l)

-- a part of a list of codes, each of which fits a set
pub record Span (cs : List ℕ) (i j : ℕ) : Type 0 where
  pub order : i ≤ j
  pub long : j ≤ length cs
  pub small : (c : ℕ) → elements (part cs i j) c → c < 512

pub part_none : (l : List ℕ) (i j : ℕ) → j ≤ i → part l i j ≡ []
part_none l i j h = let z : j - i ≡ 0 = omega arith in rw z refl

pub part-more : (l : List ℕ) (i j : ℕ) → i < j → j ≤ length l → part l i j ≡ get_or l i 0 ∷ part l (i + 1) j
part-more l i j h k =
    let n : j - i ≡ suc (j - (i + 1)) = omega arith in
    let s : i + 1 ≡ suc i = omega arith in
    let inside : i < length l = omega arith in
    rw (n, s, drop-cons l i 0 inside) refl

-- the same at one place before i
pub part_before : (l : List ℕ) (i j : ℕ) → 0 < i → i ≤ j → j ≤ length l → part l (i - 1) j ≡ get_or l (i - 1) 0 ∷ part l i j
part_before l i j p h k =
    let next : i - 1 + 1 ≡ i = omega arith in
    part-more l (i - 1) j (omega arith) k ∙ ap (λ (n : ℕ). get_or l (i - 1) 0 ∷ part l n j) next

pub part_length : (l : List ℕ) (i j : ℕ) → j ≤ length l → length (part l i j) ≡ j - i
part_length l i j h = simp (length-take, length-drop) (omega arith)

-- what stands at a place of a part
pub part_at : (l : List ℕ) (i j k : ℕ) → k < j - i → get_or (part l i j) k 0 ≡ get_or l (i + k) 0
part_at l i j k h = get_or-take (j - i) (drop i l) k 0 h ∙ get_or-drop i l k 0

taken : (l : List ℕ) (n k : ℕ) → k < n → k < length l → elements (take n l) (get_or l k 0)
taken [] n k h g = absurd (omega arith)
taken (x ∷ l) zero k h g = absurd (omega arith)
taken (x ∷ l) (suc n) zero h g = Memᴰ.head refl
taken (x ∷ l) (suc n) (suc k) h g = Memᴰ.tail (taken l n k (le_of_suc-le-suc h) (le_of_suc-le-suc g))

-- what stands at a place within belongs to the part
pub part_member : (l : List ℕ) (i j k : ℕ) → i ≤ k → k < j → j ≤ length l → elements (part l i j) (get_or l k 0)
part_member l i j k h g m =
    let from : i + (k - i) ≡ k = omega arith in
    let at : get_or (drop i l) (k - i) 0 ≡ get_or l k 0 = get_or-drop i l (k - i) 0 ∙ ap (λ (n : ℕ). get_or l n 0) from in
    subst (λ (x : ℕ). elements (part l i j) x) at (taken (drop i l) (j - i) (k - i) (omega arith) (simp length-drop (omega arith)))

-- a code at a place within fits a set
pub span_small : {cs : List ℕ} {i j : ℕ} → Span cs i j → (k : ℕ) → i ≤ k → k < j → get_or cs k 0 < 512
span_small {cs} {i} {j} S k h g = S.small _ (part_member cs i j k h g S.long)

-- what stands at any place of a part fits a set, and is one of it
pub at_place : (l : List ℕ) (k d : ℕ) → k < length l → elements l (get_or l k d)
at_place [] k d h = absurd (omega arith)
at_place (x ∷ l) zero d h = Memᴰ.head refl
at_place (x ∷ l) (suc k) d h = Memᴰ.tail (at_place l k d (le_of_suc-le-suc h))

pub span_item : {cs : List ℕ} {i j : ℕ} → Span cs i j → (x k : ℕ) → k < length (part cs i j) → x ≡ get_or (part cs i j) k x → x < 512
span_item {cs} {i} {j} S x k h e = S.small x (subst (elements (part cs i j)) (sym e) (at_place (part cs i j) k x h))

-- the part that is the whole list
pub part_whole : (l : List ℕ) → part l 0 (length l) ≡ l
part_whole l = let z : length l - 0 ≡ length l = omega arith in rw z (take-length l)

-- codes that fit a set
abbrev pub Fit : List ℕ → Type 0
Fit l = (c : ℕ) → elements l c → c < 512

pub fit_at : {l : List ℕ} → Fit l → (k : ℕ) → k < length l → get_or l k 0 < 512
fit_at {l} F k h = F _ (at_place l k 0 h)

pub fit_item : {l : List ℕ} → Fit l → (x k : ℕ) → k < length l → x ≡ get_or l k x → x < 512
fit_item {l} F x k h e = F x (subst (elements l) (sym e) (at_place l k x h))

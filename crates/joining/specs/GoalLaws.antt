-- the joined goal: its members are formulas, it rises strictly, and how long it is
use Rattle.std.specs.Prelude.{◌≡◌, refl, Bool, cond, ℕ, zero, suc, ◌*◌, ◌<◌, ◌≤◌, ltb, length, get_or}
use Rattle.std.proofs.Common.{ap, inl, inr, arith}
use Rattle.std.proofs.Math.Path.{subst}
use mathlib.Core.List.Memᴰ
use mathlib.Core.List.{List, [], ◌∷◌}
use Rattle.std.proofs.Math.Bool.{true, false}
use Rattle.verdict.specs.Lists.{Rising}
use Rattle.verdict.specs.Sets.{◌⊆◌, ◌plus◌, elements}
use Rattle.verdict.specs.Tests.{keep, each}
use Rattle.verdict.specs.Tells.{Tells, tells_as, ltb_tells, fails}
use Rattle.verdict.specs.SetTells.{Lists, member_tells, lists_plus, lists_self, lists_each}
use Rattle.formula.specs.Table.{Table}
use Rattle.formula.specs.Codes.{Formula, code}
use Rattle.formula.specs.Members.{kind_formula}
use Rattle.written.specs.Written.{written}
use Rattle.written.specs.Canon.{canon}
use Rattle.written.specs.CanonLaws.{canon_holds}
use Rattle.written.proofs.CanonLaws.{canon_says}
use Rattle.joining.specs.Goals.{sift, enter, Members, formulas, holds, rest, joined_goal, Fit}
use Rattle.joining.specs.Joined.{in_focus}

pub enter_lists : (e : ℕ) (l : List ℕ) → Lists (enter e l) (elements l plus e)
unfolding enter
enter_lists e [] = lists_plus e (lists_self [])
enter_lists e (x ∷ l) = go (ltb e x) (enter_lists e l)
  where
    go : (b : Bool) → Lists (enter e l) (elements l plus e) → Lists (cond b (e ∷ x ∷ l) (x ∷ enter e l)) (elements (x ∷ l) plus e)
    go true s = lists_plus e (lists_self (x ∷ l))
    go false s = record { into = into; from = from }
      where
        into : (c : ℕ) → elements (x ∷ enter e l) c → (elements (x ∷ l) plus e) c
        into c (Memᴰ.head i) = inl (Memᴰ.head i)
        into c (Memᴰ.tail m) = further (s.into c m)
          where
            further : (elements l plus e) c → (elements (x ∷ l) plus e) c
            further (inl n) = inl (Memᴰ.tail n)
            further (inr i) = inr i

        from : (c : ℕ) → (elements (x ∷ l) plus e) c → elements (x ∷ enter e l) c
        from c (inl (Memᴰ.head i)) = Memᴰ.head i
        from c (inl (Memᴰ.tail m)) = Memᴰ.tail (s.from c (inl m))
        from c (inr i) = Memᴰ.tail (s.from c (inr i))

pub enter_length : (e : ℕ) (l : List ℕ) → length (enter e l) ≡ suc (length l)
unfolding enter
enter_length e [] = refl
enter_length e (x ∷ l) = go (ltb e x) (enter_length e l)
  where
    go : (b : Bool) → length (enter e l) ≡ suc (length l) → length (cond b (e ∷ x ∷ l) (x ∷ enter e l)) ≡ suc (suc (length l))
    go true i = refl
    go false i = ap suc i

-- strictly rising, and nothing below c
pub data From : ℕ → List ℕ → Type 0 where
  end : {c : ℕ} → From c []
  next : {c x : ℕ} {l : List ℕ} → c ≤ x → From (suc x) l → From c (x ∷ l)

rising_from : (c : ℕ) (l : List ℕ) → (0 < length l → c ≤ get_or l 0 0) → Rising l → From c l
rising_from c [] h r = end
rising_from c (x ∷ l) h r =
    let tail : Rising l = λ i k. r (suc i) (omega arith) in
    next (h (omega arith)) (rising_from (suc x) l (λ k. let z : x < get_or l 0 0 = r 0 (omega arith) in omega arith) tail)

pub from_rising : {c : ℕ} {l : List ℕ} → From c l → Rising l
from_rising end i h = absurd (omega arith)
from_rising (next a end) i h = absurd (omega arith)
from_rising (next a (next b f)) zero h = b
from_rising (next a (next b f)) (suc i) h = from_rising (next b f) i (omega arith)

pub rising_is : (l : List ℕ) → Rising l → From 0 l
rising_is l r = rising_from 0 l (λ h. omega arith) r

from_lower : {b c : ℕ} {l : List ℕ} → b ≤ c → From c l → From b l
from_lower h end = end
from_lower {b} {c} h (next {x = x} a f) = let k : b ≤ x = omega arith in next k f

enter_from : {c : ℕ} (e : ℕ) {l : List ℕ} → c ≤ e → From c l → (elements l e → ⊥) → From c (enter e l)
unfolding enter
enter_from e h end n = next h end
enter_from {c} e h (next {x = x} {l = l} a f) n =
    let d : e ≡ x → ⊥ = λ i. n (Memᴰ.head i) in
    go (ltb e x) (ltb_tells e x) (λ k. enter_from e k f (λ m. n (Memᴰ.tail m))) d
  where
    go : (b : Bool) → Tells b (e < x) → (suc x ≤ e → From (suc x) (enter e l)) → (e ≡ x → ⊥) → From c (cond b (e ∷ x ∷ l) (x ∷ enter e l))
    go true z ih d = next h (next (z.says refl) f)
    go false z ih d = let k = fails z refl in next a (ih (omega arith))

-- codes in focus rise as their entries do
focus_from : {c : ℕ} {l : List ℕ} → From c l → From (2 * c) (in_focus l)
unfolding each
focus_from end = end
focus_from {c} (next {x = x} {l = l} a f) =
    let i : 2 * suc x ≡ suc (code x 1) = omega arith in
    let k : 2 * c ≤ code x 1 = omega arith in
    next k (subst (λ (b : ℕ). From b (in_focus l)) i (focus_from f))

pub focus_rises : (l : List ℕ) → Rising l → Rising (in_focus l)
focus_rises l r = from_rising (focus_from (rising_is l r))

pub focus_length : (l : List ℕ) → length (in_focus l) ≡ length l
unfolding each
focus_length [] = refl
focus_length (x ∷ l) = ap suc (focus_length l)

module _ (t : Table) where
  -- whether a list holds a formula
  pub holds-tells : (l : List ℕ) → Members t l → (e : ℕ) → Formula t e → Tells (holds t l e) (formulas t l (written t e))
  unfolding holds
  holds-tells l M e F = tells_as into (λ (f, m, q). (lists_each (canon t) l).from (canon t e) (f, m, canon_holds t e f q)) (member_tells (each (canon t) l) (canon t e))
    where
      into : elements (each (canon t) l) (canon t e) → formulas t l (written t e)
      into m = let (f, n, q) = (lists_each (canon t) l).into (canon t e) m in (f, n, canon_says t e f F (M f n) q)

  rest_from : (r : List ℕ) {c : ℕ} {l : List ℕ} → From c l → From c (rest t l r)
  unfolding rest sift
  rest_from r end = end
  rest_from r {c} (next {x = x} {l = l} a f) = go (holds t r x) (rest_from r f)
    where
      go : (b : Bool) → From (suc x) (rest t l r) → From c (keep b x (rest t l r))
      go true g = next a g
      go false g = from_lower (omega arith) g

  pub rest_members : (l r : List ℕ) → elements (rest t l r) ⊆ elements l
  unfolding rest sift
  rest_members [] r c m = m
  rest_members (x ∷ l) r c m = go (holds t r x) (rest_members l r) m
    where
      go : (b : Bool) → elements (rest t l r) ⊆ elements l → elements (keep b x (rest t l r)) c → elements (x ∷ l) c
      go true ih (Memᴰ.head i) = Memᴰ.head i
      go true ih (Memᴰ.tail n) = Memᴰ.tail (ih c n)
      go false ih n = Memᴰ.tail (ih c n)

  pub rest_rises : (l r : List ℕ) → Rising l → Rising (rest t l r)
  rest_rises l r h = from_rising (rest_from r (rising_is l h))

  module _ (e : ℕ) (l r : List ℕ) where
    pub joined_length : length (joined_goal t e l r) ≡ suc (length (rest t l r))
    unfolding joined_goal
    joined_length = enter_length e (rest t l r)

    pub joined_members : Members t l → Formula t e → Members t (joined_goal t e l r)
    unfolding joined_goal
    joined_members M F f m = go ((enter_lists e (rest t l r)).into f m)
      where
        go : (elements (rest t l r) plus e) f → Formula t f
        go (inl n) = M f (rest_members l r f n)
        go (inr i) = rw i F

    pub joined_rises : Rising l → (elements (rest t l r) e → ⊥) → Rising (joined_goal t e l r)
    unfolding joined_goal
    joined_rises h n = from_rising (enter_from e (omega arith) (rest_from r (rising_is l h)) n)

  -- "A and B" is an entry and no name
  pub fit_formula : {e : ℕ} {l r : List ℕ} → Fit t e l r → Formula t e
  fit_formula {e} K = kind_formula t e (omega (arith, K.of_kind)) (omega (arith, K.of_kind))

  -- no member of the rest by formula, so none by number
  pub fit_apart : {e : ℕ} {l r : List ℕ} → Fit t e l r → elements (rest t l r) e → ⊥
  fit_apart {e} K m = K.apart (e, m, refl)

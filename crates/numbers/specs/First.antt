-- The least entry, no name, that has a number.
use Rattle.std.specs.Prelude.{◌≡◌, ◌≢◌, List, Bool, true, false, not, ◌&&◌, eqb, length, set}
use Rattle.std.proofs.Math.Path.{refl, sym, ap}
use Rattle.std.proofs.Common.{◌∙◌}
use Rattle.std.proofs.Math.Bool.{and-false}
use Prim.Native.Nat.{ℕ, zero, suc, ◌+◌, ◌-◌, ◌<◌, ◌≤◌}
use Rattle.std.proofs.Math.Decide.{ℕ_discrete}
use native.Mathlib.Omega.{arith}
use Rattle.std.proofs.Math.ListN.{get_or, length-set}
use Rattle.std.proofs.Math.Seq.{get_or-set_same, get_or-set_other}
use borrow.Author.Tests.{eq-eqb, ne_eqb}
use Rattle.verdict.specs.Tests.{choose}
use Rattle.verdict.specs.Tells.{Tells, and_tells, not_tells, eqb_tells}
use Rattle.formula.specs.Kind
use Rattle.formula.specs.Table.{Table}
use Rattle.written.specs.Canon.{least, canon}
use Rattle.written.specs.CanonLaws.{least_local}

-- entry f is no name and has the number of e
unfoldable pub numbered : List ℕ → List ℕ → ℕ → ℕ → Bool
numbered ks rs e f = not (eqb (get_or ks f 0) Kind.NAME) && eqb (get_or rs e 0) (get_or rs f 0)

-- whatever entry has the number
pub numbered_as : (ks rs : List ℕ) (e f : ℕ) → get_or rs e 0 ≡ get_or rs f 0 → (n : ℕ) → least (numbered ks rs f) n 0 ≡ least (numbered ks rs e) n 0
unfolding numbered
numbered_as ks rs e f q n = least_local (numbered ks rs f) (numbered ks rs e) n 0 (λ d _. rw q refl)

pub numbered_says : (ks rs : List ℕ) (e f : ℕ) → Tells (numbered ks rs e f) ((get_or ks f 0 ≢ Kind.NAME) × (get_or rs e 0 ≡ get_or rs f 0))
unfolding numbered
numbered_says ks rs e f = and_tells (not_tells (eqb_tells (get_or ks f 0) Kind.NAME)) (eqb_tells (get_or rs e 0) (get_or rs f 0))

-- the numbers tell the formulas of the first n entries apart
abbrev pub Told : List ℕ → Table → ℕ → List ℕ → Type 0
Told ks t n rs = (e : ℕ) → e < n → least (numbered ks rs e) n 0 ≡ canon t e

-- what is found passes
pub least_found : (ok : ℕ → Bool) (n i : ℕ) → least ok n i < i + n → ok (least ok n i) ≡ true
unfolding least
least_found ok zero i h = absurd (omega arith)
least_found ok (suc n) i h = go (ok i) refl h (least_found ok n (suc i))
  where
    go : (b : Bool) → ok i ≡ b → choose b i (least ok n (suc i)) < i + suc n → (least ok n (suc i) < suc i + n → ok (least ok n (suc i)) ≡ true)
        → ok (choose b i (least ok n (suc i))) ≡ true
    go true q l ih = q
    go false q l ih = ih (omega arith)

-- of the entries from e on, ls has the least of each number
pub record Firsts (ks rs : List ℕ) (n : ℕ) (ls : List ℕ) (e : ℕ) : Type 0 where
  pub count : length ls ≡ 256
  pub firsts : (f : ℕ) → e ≤ f → f < n → get_or ks f 0 ≢ Kind.NAME → get_or ls (get_or rs f 0) 0 ≡ least (numbered ks rs f) (n - e) e

-- the least from e on is e, or is later
module _ (ok : ℕ → Bool) (n e : ℕ) (inside : e < n) where
  least_here : ok e ≡ true → least ok (n - e) e ≡ e
  unfolding least
  least_here q = go (n - e) (omega arith)
    where
      go : (k : ℕ) → 0 < k → least ok k e ≡ e
      go zero l = absurd (omega arith)
      go (suc k) l = rw q refl

  least_later : ok e ≡ false → least ok (n - e) e ≡ least ok (n - suc e) (suc e)
  unfolding least
  least_later q = go (n - e) (n - suc e) (omega arith)
    where
      go : (k l : ℕ) → k ≡ suc l → least ok k e ≡ least ok l (suc e)
      go zero l z = absurd (omega arith)
      go (suc k) l z = let r : k ≡ l = omega arith in rw (q, r) refl

-- one entry more
module _ {ks rs : List ℕ} {n : ℕ} {ls : List ℕ} {e : ℕ} (inside : e < n) (F : Firsts ks rs n ls (suc e)) where
  -- a name is no answer
  pub firsts_name : get_or ks e 0 ≡ Kind.NAME → Firsts ks rs n ls e
  unfolding numbered
  firsts_name q = record { count = F.count; firsts = λ f h l none. go f h l none (ℕ_discrete f e) }
    where
      go : (f : ℕ) → e ≤ f → f < n → get_or ks f 0 ≢ Kind.NAME → Dec (f ≡ e) → get_or ls (get_or rs f 0) 0 ≡ least (numbered ks rs f) (n - e) e
      go f h l none (yes z) = absurd (none (rw z q))
      go f h l none (no z) =
          F.firsts f (omega arith) l none ∙ sym (least_later (numbered ks rs f) n e inside (rw (eq-eqb (get_or ks e 0) Kind.NAME q) refl))

  pub firsts_put : get_or rs e 0 < 256 → get_or ks e 0 ≢ Kind.NAME → Firsts ks rs n (set ls (get_or rs e 0) e) e
  unfolding numbered
  firsts_put small real = record {
    count = length-set ls (get_or rs e 0) e ∙ F.count;
    firsts = λ f h l none. go f h l none (ℕ_discrete (get_or rs f 0) (get_or rs e 0));
  }
    where
      go : (f : ℕ) → e ≤ f → f < n → get_or ks f 0 ≢ Kind.NAME → Dec (get_or rs f 0 ≡ get_or rs e 0)
          → get_or (set ls (get_or rs e 0) e) (get_or rs f 0) 0 ≡ least (numbered ks rs f) (n - e) e
      go f h l none (yes z) =
          ap (λ (m : ℕ). get_or (set ls (get_or rs e 0) e) m 0) z ∙ get_or-set_same ls (get_or rs e 0) e 0 (omega (arith, F.count))
          ∙ sym (least_here (numbered ks rs f) n e inside (rw (ne_eqb (get_or ks e 0) Kind.NAME real, eq-eqb (get_or rs f 0) (get_or rs e 0) z) refl))
      go f h l none (no z) =
          get_or-set_other ls (get_or rs e 0) (get_or rs f 0) e 0 z ∙ F.firsts f (later (ℕ_discrete f e)) l none
          ∙ sym (least_later (numbered ks rs f) n e inside (rw (ne_eqb (get_or rs f 0) (get_or rs e 0) z) (and-false (not (eqb (get_or ks e 0) Kind.NAME)))))
        where
          later : Dec (f ≡ e) → suc e ≤ f
          later (yes w) = absurd (z (rw w refl))
          later (no w) = omega arith

-- so for the first n entries of a column that was old
pub record FirstEach (rs ls old cs : List ℕ) (n : ℕ) : Type 0 where
  pub count : length cs ≡ 256
  pub each : (e : ℕ) → e < n → get_or cs e 0 ≡ get_or ls (get_or rs e 0) 0
  pub beyond : (e : ℕ) → n ≤ e → get_or cs e 0 ≡ get_or old e 0

pub first_more : {rs ls old cs : List ℕ} {e : ℕ} → e < 256 → FirstEach rs ls old cs e → (x : ℕ) → x ≡ get_or ls (get_or rs e 0) 0
    → FirstEach rs ls old (set cs e x) (e + 1)
first_more {rs} {ls} {old} {cs} {e} h F x q = record {
  count = length-set cs e x ∙ F.count;
  each = λ d l. go d l (ℕ_discrete d e);
  beyond = λ d l. get_or-set_other cs e d x 0 (λ z. omega arith) ∙ F.beyond d (omega arith);
}
  where
    go : (d : ℕ) → d < e + 1 → Dec (d ≡ e) → get_or (set cs e x) d 0 ≡ get_or ls (get_or rs d 0) 0
    go d l (yes z) = rw z (get_or-set_same cs e x 0 (omega (arith, F.count)) ∙ q)
    go d l (no z) = get_or-set_other cs e d x 0 z ∙ F.each d (omega arith)

-- each test of 20 to 23 is exact for document 01's condition
use Rattle.std.specs.Prelude.{◌≡◌, ◌⊎◌, Bool, true, false, not, ◌||◌, ℕ, zero, suc, ◌<◌, ◌≤◌, get_or}
use Rattle.std.proofs.Math.Path.{refl, sym, ap, subst, subst⁻¹}
use Rattle.std.proofs.Common.{◌∙◌, inl, inr, true≢false, arith}
use mathlib.Core.List.{[], ◌∷◌}
use Rattle.std.proofs.lemmas.Bool.{false≢true}
use Rattle.std.proofs.Math.Decide.{dec_lt}
use Rattle.std.proofs.Math.ListN.{length}
use Rattle.formula.specs.Table.{Table}
use Rattle.formula.specs.Shape.{Shape, leaf, two, step, fix, name, Leaf, never, always, letter, negated, Step, diamond, box, mu, nu, shape, Operand, Fixpoint}
use Rattle.conditions.specs.Free.{Free, named, inside}
use Rattle.formula.specs.TableLaws.{past_end}
use Rattle.formula.specs.Below.{by_smaller}
use Rattle.conditions.specs.Conditions.{BadLeaf, Bad, FarStep, FarShape, NotAbove, Alternates, nu_in_mu, mu_in_nu, NoStep, Unguarded, here, down, OwnUnguarded}
use Rattle.conditions.specs.Formed.{InBounds, Fits}
use Rattle.conditions.specs.Rows.{Row, has, union, clear, up_to}
use Rattle.conditions.specs.RowLaws.{has_union, has_clear, has_single, has_up_to, Common, meets_tells}
use Rattle.conditions.specs.Upward.{look, look_eq, look_past}
use Rattle.verdict.specs.Tells.{Tells, tells_as, true_tells, false_tells, leb_tells, or_tells, not_tells}
use Rattle.conditions.specs.Judge.{is_fix, bad_leaf, bad, far_step, far, free_row, open_row, frees, opens, is_mu, is_nu, marks, alternates, own_open, low, mixed, loose}

-- 20

pub is_fix_tells : (v : Shape) → Tells (is_fix v) (Fixpoint v)
unfolding is_fix
is_fix_tells (leaf l) = false_tells (λ h. h)
is_fix_tells (two o a b) = false_tells (λ h. h)
is_fix_tells (step m a) = false_tells (λ h. h)
is_fix_tells (fix σ a) = true_tells tt
is_fix_tells (name x) = false_tells (λ h. h)

bad_leaf_tells : (l : Leaf) → Tells (bad_leaf l) (BadLeaf l)
unfolding bad_leaf
bad_leaf_tells never = false_tells (λ h. h)
bad_leaf_tells always = false_tells (λ h. h)
bad_leaf_tells (letter p) = leb_tells 32 p
bad_leaf_tells (negated p) = leb_tells 32 p

pub bad_tells : (t : Table) (e : ℕ) (v : Shape) → Tells (bad t e v) (Bad t e v)
unfolding bad
bad_tells t e (leaf l) = bad_leaf_tells l
bad_tells t e (two o a b) = or_tells (leb_tells e a) (leb_tells e b)
bad_tells t e (step m a) = leb_tells e a
bad_tells t e (fix σ a) = leb_tells e a
bad_tells t e (name x) = or_tells (leb_tells x e) (or_tells (leb_tells (length t) x) (not_tells (is_fix_tells (shape t x))))

far_step_tells : (m : Step) → Tells (far_step m) (FarStep m)
unfolding far_step
far_step_tells (diamond n) = leb_tells 16 n
far_step_tells (box n) = leb_tells 16 n

pub far_tells : (v : Shape) → Tells (far v) (FarShape v)
unfolding far
far_tells (leaf l) = false_tells (λ h. h)
far_tells (two o a b) = false_tells (λ h. h)
far_tells (step m a) = far_step_tells m
far_tells (fix σ a) = false_tells (λ h. h)
far_tells (name x) = false_tells (λ h. h)

pub under : (a e : ℕ) → (e ≤ a → ⊥) → a < e
under a e k = go (dec_lt a e)
  where
    go : Dec (a < e) → a < e
    go (yes h) = h
    go (no h) = absurd (k (omega arith))

pub operand_under : (t : Table) (e c : ℕ) (v : Shape) → (Bad t e v → ⊥) → Operand v c → c < e
operand_under t e c (leaf l) k o = absurd o
operand_under t e c (two p a b) k (inl o) = rw o (under a e (λ h. k (inl h)))
operand_under t e c (two p a b) k (inr o) = rw o (under b e (λ h. k (inr h)))
operand_under t e c (step m a) k o = rw o (under a e k)
operand_under t e c (fix σ a) k o = rw o (under a e k)
operand_under t e c (name x) k o = absurd o

-- rows computed upwards

free_row_local : (f g : ℕ → Row) (e : ℕ) (v : Shape) → ((c : ℕ) → Operand v c → f c ≡ g c) → free_row f e v ≡ free_row g e v
unfolding free_row
free_row_local f g e (leaf l) h = refl
free_row_local f g e (two o a b) h = λ i. union (h a (inl refl) i) (h b (inr refl) i)
free_row_local f g e (step m a) h = h a refl
free_row_local f g e (fix σ a) h = λ i. clear e (h a refl i)
free_row_local f g e (name y) h = refl

open_row_local : (f g : ℕ → Row) (e : ℕ) (v : Shape) → ((c : ℕ) → Operand v c → f c ≡ g c) → open_row f e v ≡ open_row g e v
unfolding open_row
open_row_local f g e (leaf l) h = refl
open_row_local f g e (two o a b) h = λ i. union (h a (inl refl) i) (h b (inr refl) i)
open_row_local f g e (step m a) h = refl
open_row_local f g e (fix σ a) h = h a refl
open_row_local f g e (name y) h = refl

abbrev pub free_set : Table → ℕ → Row
free_set t e = get_or (frees t) e []

abbrev pub open_set : Table → ℕ → Row
open_set t e = get_or (opens t) e []

-- what marks a list holds of the entries that pass a test

pub marks_has : (g : Shape → Bool) → g (leaf never) ≡ false → (t : Table) (x : ℕ) → has (marks g t) x ≡ g (shape t x)
unfolding has marks shape
marks_has g n [] x = sym n
marks_has g n (r ∷ t) zero = refl
marks_has g n (r ∷ t) (suc x) = marks_has g n t x

is_mu_is : (v : Shape) → is_mu v ≡ true → (a : ℕ) × (v ≡ fix mu a)
is_mu_is (leaf l) h = absurd (false≢true h)
is_mu_is (two o a b) h = absurd (false≢true h)
is_mu_is (step m a) h = absurd (false≢true h)
is_mu_is (fix mu a) h = (a, refl)
is_mu_is (fix nu a) h = absurd (false≢true h)
is_mu_is (name x) h = absurd (false≢true h)

is_nu_is : (v : Shape) → is_nu v ≡ true → (a : ℕ) × (v ≡ fix nu a)
is_nu_is (leaf l) h = absurd (false≢true h)
is_nu_is (two o a b) h = absurd (false≢true h)
is_nu_is (step m a) h = absurd (false≢true h)
is_nu_is (fix mu a) h = absurd (false≢true h)
is_nu_is (fix nu a) h = (a, refl)
is_nu_is (name x) h = absurd (false≢true h)

pub mus_tells : (t : Table) (x : ℕ) → Tells (has (marks is_mu t) x) ((a : ℕ) × (shape t x ≡ fix mu a))
mus_tells t x = record { says = λ h. is_mu_is (shape t x) (sym (marks_has is_mu refl t x) ∙ h); holds = λ (a, q). marks_has is_mu refl t x ∙ ap is_mu q }

pub nus_tells : (t : Table) (x : ℕ) → Tells (has (marks is_nu t) x) ((a : ℕ) × (shape t x ≡ fix nu a))
nus_tells t x = record { says = λ h. is_nu_is (shape t x) (sym (marks_has is_nu refl t x) ∙ h); holds = λ (a, q). marks_has is_nu refl t x ∙ ap is_nu q }

pub alternates_fix : (t : Table) (e : ℕ) → Alternates t e → Fixpoint (shape t e)
alternates_fix t e (nu_in_mu x a b q f r) = subst⁻¹ Fixpoint q tt
alternates_fix t e (mu_in_nu x a b q f r) = subst⁻¹ Fixpoint q tt

pub own_fix : (t : Table) (e : ℕ) → OwnUnguarded t e → Fixpoint (shape t e)
own_fix t e (σ, a, q, u) = subst⁻¹ Fixpoint q tt

mu_not_nu : (v : Shape) (a b : ℕ) → v ≡ fix mu a → v ≡ fix nu b → ⊥
mu_not_nu v a b q r = true≢false (sym (ap is_mu q) ∙ ap is_mu r)

module _ (t : Table) (placed : (w : ℕ) → InBounds t w) where
  -- a list computed upwards obeys its clause, at every number
  module _ (clause : (ℕ → Row) → ℕ → Shape → Row)
      (local : (f g : ℕ → Row) (e : ℕ) (v : Shape) → ((c : ℕ) → Operand v c → f c ≡ g c) → clause f e v ≡ clause g e v)
      (empty : (f : ℕ → Row) (e : ℕ) → clause f e (leaf never) ≡ []) where
    row_of : ℕ → Row
    row_of = look [] (λ f e. clause f e (shape t e)) (length t)

    row_at : (e : ℕ) (v : Shape) → shape t e ≡ v → row_of e ≡ clause row_of e v
    unfolding row_of
    row_at e v q = go (dec_lt e (length t))
      where
        go : Dec (e < length t) → row_of e ≡ clause row_of e v
        go (yes h) =
            look_eq [] (λ f e. clause f e (shape t e)) (λ f g e k. local f g e (shape t e) (λ c o. k c (operand_under t e c (shape t e) (placed e) o))) (length t) e h
            ∙ ap (clause row_of e) q
        go (no h) =
            look_past [] (λ f e. clause f e (shape t e)) (length t) e (omega arith)
            ∙ sym (empty row_of e) ∙ ap (clause row_of e) (sym (past_end t e (omega arith)) ∙ q)

  pub free_at : (e : ℕ) (v : Shape) → shape t e ≡ v → free_set t e ≡ free_row (free_set t) e v
  unfolding frees row_of free_row
  free_at e v q = row_at free_row free_row_local (λ f e. refl) e v q

  pub open_at : (e : ℕ) (v : Shape) → shape t e ≡ v → open_set t e ≡ open_row (open_set t) e v
  unfolding opens row_of open_row
  open_at e v q = row_at open_row open_row_local (λ f e. refl) e v q

  -- free names

  free_inside : (e c x : ℕ) (v : Shape) → Operand v c → (Fixpoint v → x ≡ e → ⊥) → has (free_set t c) x ≡ true → has (free_row (free_set t) e v) x ≡ true
  unfolding free_row
  free_inside e c x (leaf l) o k h = absurd o
  free_inside e c x (two p a b) (inl o) k h = (has_union (free_set t a) (free_set t b) x).holds (inl (rw o at h))
  free_inside e c x (two p a b) (inr o) k h = (has_union (free_set t a) (free_set t b) x).holds (inr (rw o at h))
  free_inside e c x (step m a) o k h = rw o at h
  free_inside e c x (fix σ a) o k h = (has_clear e (free_set t a) x).holds (rw o at h, k tt)
  free_inside e c x (name y) o k h = absurd o

  free_holds : {e x : ℕ} → Free t e x → has (free_set t e) x ≡ true
  free_holds (named {e = e} {x = x} q) = rw (free_at e (name x) q) (unfold free_row in (has_single x x).holds refl)
  free_holds (inside {e = e} {c = c} {x = x} v q o k f) = rw (free_at e v q) (free_inside e c x v o k (free_holds f))

  inside_free : (e x : ℕ) (v : Shape) → shape t e ≡ v → ((c : ℕ) → Operand v c → has (free_set t c) x ≡ true → Free t c x)
      → has (free_row (free_set t) e v) x ≡ true → Free t e x
  unfolding free_row has
  inside_free e x (leaf l) q ih h = absurd (false≢true h)
  inside_free e x (two o a b) q ih h = go ((has_union (free_set t a) (free_set t b) x).says h)
    where
      go : (has (free_set t a) x ≡ true) ⊎ (has (free_set t b) x ≡ true) → Free t e x
      go (inl g) = inside _ q (inl refl) absurd (ih a (inl refl) g)
      go (inr g) = inside _ q (inr refl) absurd (ih b (inr refl) g)
  inside_free e x (step m a) q ih h = inside _ q refl absurd (ih a refl h)
  inside_free e x (fix σ a) q ih h = let (g, n) = (has_clear e (free_set t a) x).says h in inside _ q refl (λ _. n) (ih a refl g)
  inside_free e x (name y) q ih h = named {e = e} {x = x} (rw ((has_single y x).says h) q)

  pub free_tells : (e x : ℕ) → Tells (has (free_set t e) x) (Free t e x)
  free_tells e x = record { says = says e; holds = free_holds }
    where
      says : (e : ℕ) → has (free_set t e) x ≡ true → Free t e x
      says = by_smaller (λ e. has (free_set t e) x ≡ true → Free t e x)
          (λ e ih h. inside_free e x (shape t e) refl (λ c o. ih c (operand_under t e c (shape t e) (placed e) o)) (rw (free_at e (shape t e) refl) at h))

  -- names reached through no box or diamond

  open_inside : (e c x : ℕ) (v : Shape) → Operand v c → NoStep v → has (open_set t c) x ≡ true → has (open_row (open_set t) e v) x ≡ true
  unfolding open_row
  open_inside e c x (leaf l) o k h = absurd o
  open_inside e c x (two p a b) (inl o) k h = (has_union (open_set t a) (open_set t b) x).holds (inl (rw o at h))
  open_inside e c x (two p a b) (inr o) k h = (has_union (open_set t a) (open_set t b) x).holds (inr (rw o at h))
  open_inside e c x (step m a) o k h = absurd k
  open_inside e c x (fix σ a) o k h = rw o at h
  open_inside e c x (name y) o k h = absurd o

  open_holds : {e x : ℕ} → Unguarded t e x → has (open_set t e) x ≡ true
  open_holds (here {e = e} {x = x} q) = rw (open_at e (name x) q) (unfold open_row in (has_single x x).holds refl)
  open_holds (down {e = e} {c = c} {x = x} v q o k f) = rw (open_at e v q) (open_inside e c x v o k (open_holds f))

  inside_open : (e x : ℕ) (v : Shape) → shape t e ≡ v → ((c : ℕ) → Operand v c → has (open_set t c) x ≡ true → Unguarded t c x)
      → has (open_row (open_set t) e v) x ≡ true → Unguarded t e x
  unfolding open_row has
  inside_open e x (leaf l) q ih h = absurd (false≢true h)
  inside_open e x (two o a b) q ih h = go ((has_union (open_set t a) (open_set t b) x).says h)
    where
      go : (has (open_set t a) x ≡ true) ⊎ (has (open_set t b) x ≡ true) → Unguarded t e x
      go (inl g) = down _ q (inl refl) tt (ih a (inl refl) g)
      go (inr g) = down _ q (inr refl) tt (ih b (inr refl) g)
  inside_open e x (step m a) q ih h = absurd (false≢true h)
  inside_open e x (fix σ a) q ih h = down _ q refl tt (ih a refl h)
  inside_open e x (name y) q ih h = here {e = e} {x = x} (rw ((has_single y x).says h) q)

  pub open_tells : (e x : ℕ) → Tells (has (open_set t e) x) (Unguarded t e x)
  open_tells e x = record { says = says e; holds = open_holds }
    where
      says : (e : ℕ) → has (open_set t e) x ≡ true → Unguarded t e x
      says = by_smaller (λ e. has (open_set t e) x ≡ true → Unguarded t e x)
          (λ e ih h. inside_open e x (shape t e) refl (λ c o. ih c (operand_under t e c (shape t e) (placed e) o)) (rw (open_at e (shape t e) refl) at h))

  -- 21

  pub low_tells : (e : ℕ) → Tells (low (frees t) e) (NotAbove t e)
  unfolding low
  low_tells e =
      tells_as (λ (x, h, k). (x, (free_tells e x).says h, (has_up_to e x).says k)) (λ (x, f, l). (x, (free_tells e x).holds f, (has_up_to e x).holds l))
      (meets_tells (free_set t e) (up_to e))

  -- 22

  alternates_tells : (e : ℕ) (v : Shape) → shape t e ≡ v → Tells (alternates (free_set t e) (marks is_mu t) (marks is_nu t) v) (Alternates t e)
  unfolding alternates
  alternates_tells e (leaf l) q = false_tells (λ z. subst Fixpoint q (alternates_fix t e z))
  alternates_tells e (two o a b) q = false_tells (λ z. subst Fixpoint q (alternates_fix t e z))
  alternates_tells e (step m a) q = false_tells (λ z. subst Fixpoint q (alternates_fix t e z))
  alternates_tells e (fix mu a) q = tells_as into from (meets_tells (free_set t e) (marks is_nu t))
    where
      into : Common (free_set t e) (marks is_nu t) → Alternates t e
      into (x, h, k) = let (b, r) = (nus_tells t x).says k in nu_in_mu x a b q ((free_tells e x).says h) r

      from : Alternates t e → Common (free_set t e) (marks is_nu t)
      from (nu_in_mu x c b p f r) = (x, (free_tells e x).holds f, (nus_tells t x).holds (b, r))
      from (mu_in_nu x c b p f r) = absurd (mu_not_nu (shape t e) a c q p)
  alternates_tells e (fix nu a) q = tells_as into from (meets_tells (free_set t e) (marks is_mu t))
    where
      into : Common (free_set t e) (marks is_mu t) → Alternates t e
      into (x, h, k) = let (b, r) = (mus_tells t x).says k in mu_in_nu x a b q ((free_tells e x).says h) r

      from : Alternates t e → Common (free_set t e) (marks is_mu t)
      from (nu_in_mu x c b p f r) = absurd (mu_not_nu (shape t e) c a p q)
      from (mu_in_nu x c b p f r) = (x, (free_tells e x).holds f, (mus_tells t x).holds (b, r))
  alternates_tells e (name x) q = false_tells (λ z. subst Fixpoint q (alternates_fix t e z))

  pub mixed_tells : (e : ℕ) → Tells (mixed t (frees t) (marks is_mu t) (marks is_nu t) e) (Alternates t e)
  unfolding mixed
  mixed_tells e = alternates_tells e (shape t e) refl

  -- 23

  own_tells : (e : ℕ) (v : Shape) → shape t e ≡ v → Tells (own_open (opens t) e v) (OwnUnguarded t e)
  unfolding own_open
  own_tells e (leaf l) q = false_tells (λ z. subst Fixpoint q (own_fix t e z))
  own_tells e (two o a b) q = false_tells (λ z. subst Fixpoint q (own_fix t e z))
  own_tells e (step m a) q = false_tells (λ z. subst Fixpoint q (own_fix t e z))
  own_tells e (fix σ a) q = tells_as (λ u. (σ, a, q, u)) from (open_tells a e)
    where
      from : OwnUnguarded t e → Unguarded t a e
      from (τ, b, p, u) = let s : b ≡ a = cc in subst (λ c. Unguarded t c e) s u
  own_tells e (name x) q = false_tells (λ z. subst Fixpoint q (own_fix t e z))

  pub unguarded_tells : (e : ℕ) → Tells (loose t (opens t) e) (OwnUnguarded t e)
  unfolding loose
  unguarded_tells e = own_tells e (shape t e) refl

  -- 21, 22 and 23 at an entry

  abbrev pub fault : ℕ → Bool
  fault e = low (frees t) e || (mixed t (frees t) (marks is_mu t) (marks is_nu t) e || loose t (opens t) e)

  pub fits_tells : (e : ℕ) → Tells (not (fault e)) (Fits t e)
  fits_tells e =
      tells_as
      (λ n. record { above = λ h. n (inl h); alike = λ h. n (inr (inl h)); guarded = λ h. n (inr (inr h)) })
      none
      (not_tells (or_tells (low_tells e) (or_tells (mixed_tells e) (unguarded_tells e))))
    where
      none : Fits t e → NotAbove t e ⊎ Alternates t e ⊎ OwnUnguarded t e → ⊥
      none f (inl h) = f.above h
      none f (inr (inl h)) = f.alike h
      none f (inr (inr h)) = f.guarded h

-- what the tests over lists tell of the sets that the lists hold
use Rattle.std.specs.Prelude.{◌≡◌, ◌⊎◌, Bool, true, false, not, ℕ, eqb}
use Rattle.std.proofs.Math.Path.{refl, subst}
use Rattle.std.proofs.Common.{sym, ap, ◌∙◌, inl, inr}
use mathlib.Core.List.Memᴰ
use mathlib.Core.List.{List, [], ◌∷◌}
use Rattle.std.proofs.lemmas.Bool.{false≢true}
use Rattle.verdict.specs.Sets.{Set, Same, ◌⊆◌, elements, without, image, ◌plus◌}
use Rattle.verdict.specs.Tests.{all, any, member, keep, remove, each}
use Rattle.verdict.specs.Tells.{Tells, tells_as, eqb_tells, and_tells, or_tells, not_tells}

module _ {f : ℕ → Bool} {P : Set ℕ} (x : (c : ℕ) → Tells (f c) (P c)) where
  pub all_tells : (l : List ℕ) → Tells (all f l) (elements l ⊆ P)
  unfolding all
  all_tells [] = record { says = λ h c m. absurd (Memᴰ.not-nil m); holds = λ g. refl }
  all_tells (d ∷ l) = tells_as split (λ g. (g d (Memᴰ.head refl), λ c m. g c (Memᴰ.tail m))) (and_tells (x d) (all_tells l))
    where
      split : P d × (elements l ⊆ P) → elements (d ∷ l) ⊆ P
      split h c (Memᴰ.head e) = subst P (sym e) h.0
      split h c (Memᴰ.tail m) = h.1 c m

  pub any_tells : (l : List ℕ) → Tells (any f l) ((c : ℕ) × elements l c × P c)
  unfolding any
  any_tells [] = record { says = λ h. absurd (false≢true h); holds = λ (c, m, q). absurd (Memᴰ.not-nil m) }
  any_tells (d ∷ l) = tells_as into (λ (c, m, q). from c m q) (or_tells (x d) (any_tells l))
    where
      into : P d ⊎ ((c : ℕ) × elements l c × P c) → (c : ℕ) × elements (d ∷ l) c × P c
      into (inl q) = (d, Memᴰ.head refl, q)
      into (inr (c, m, q)) = (c, Memᴰ.tail m, q)

      from : (c : ℕ) → elements (d ∷ l) c → P c → P d ⊎ ((c : ℕ) × elements l c × P c)
      from c (Memᴰ.head e) q = inl (subst P e q)
      from c (Memᴰ.tail m) q = inr (c, m, q)

pub member_tells : (l : List ℕ) (c : ℕ) → Tells (member l c) (elements l c)
unfolding member
member_tells l c = tells_as (λ (d, m, e). rw e m) (λ m. (c, m, refl)) (any_tells (λ d. eqb_tells c d) l)

-- the list l holds the set S
abbrev pub Lists : List ℕ → Set ℕ → Type 0
Lists l S = Same (elements l) S

pub same_sym : {X : Type 0} {S R : Set X} → Same S R → Same R S
same_sym s = record { into = s.from; from = s.into }

pub same_trans : {X : Type 0} {S R Q : Set X} → Same S R → Same R Q → Same S Q
same_trans s r = record { into = λ c m. r.into c (s.into c m); from = λ c m. s.from c (r.from c m) }

pub lists_self : (l : List ℕ) → Lists l (elements l)
lists_self l = record { into = λ c m. m; from = λ c m. m }

pub lists_plus : {l : List ℕ} {S : Set ℕ} (x : ℕ) → Lists l S → Lists (x ∷ l) (S plus x)
lists_plus {l} {S} x s = record { into = into; from = from }
  where
    into : (c : ℕ) → elements (x ∷ l) c → (S plus x) c
    into c (Memᴰ.head e) = inr e
    into c (Memᴰ.tail m) = inl (s.into c m)

    from : (c : ℕ) → (S plus x) c → elements (x ∷ l) c
    from c (inl m) = Memᴰ.tail (s.from c m)
    from c (inr e) = Memᴰ.head e

pub lists_remove : (x : ℕ) (l : List ℕ) → Lists (remove x l) (without (elements l) x)
unfolding remove
lists_remove x [] = record { into = λ c m. absurd (Memᴰ.not-nil m); from = λ c (m, n). m }
lists_remove x (y ∷ l) = go (not (eqb y x)) (not_tells (eqb_tells y x)) (lists_remove x l)
  where
    go : (b : Bool) → Tells b (y ≡ x → ⊥) → Lists (remove x l) (without (elements l) x) → Lists (keep b y (remove x l)) (without (elements (y ∷ l)) x)
    go true z s = record { into = into; from = from }
      where
        into : (c : ℕ) → elements (y ∷ remove x l) c → without (elements (y ∷ l)) x c
        into c (Memᴰ.head e) = (Memᴰ.head e, λ q. z.says refl (sym e ∙ q))
        into c (Memᴰ.tail m) = let (n, k) = s.into c m in (Memᴰ.tail n, k)

        from : (c : ℕ) → without (elements (y ∷ l)) x c → elements (y ∷ remove x l) c
        from c (Memᴰ.head e, k) = Memᴰ.head e
        from c (Memᴰ.tail m, k) = Memᴰ.tail (s.from c (m, k))
    go false z s = record { into = λ c m. let (n, k) = s.into c m in (Memᴰ.tail n, k); from = from }
      where
        from : (c : ℕ) → without (elements (y ∷ l)) x c → elements (remove x l) c
        from c (Memᴰ.head e, k) = absurd (false≢true (z.holds (λ q. k (e ∙ q))))
        from c (Memᴰ.tail m, k) = s.from c (m, k)

pub lists_each : (f : ℕ → ℕ) (l : List ℕ) → Lists (each f l) (image f (elements l))
unfolding each
lists_each f [] = record { into = λ c m. absurd (Memᴰ.not-nil m); from = λ c (d, m, e). absurd (Memᴰ.not-nil m) }
lists_each f (x ∷ l) = record { into = into (lists_each f l); from = λ c (d, m, e). from (lists_each f l) c d m e }
  where
    into : Lists (each f l) (image f (elements l)) → (c : ℕ) → elements (f x ∷ each f l) c → image f (elements (x ∷ l)) c
    into s c (Memᴰ.head e) = (x, Memᴰ.head refl, e)
    into s c (Memᴰ.tail m) = let (d, n, e) = s.into c m in (d, Memᴰ.tail n, e)

    from : Lists (each f l) (image f (elements l)) → (c d : ℕ) → elements (x ∷ l) d → c ≡ f d → elements (f x ∷ each f l) c
    from s c d (Memᴰ.head q) e = Memᴰ.head (e ∙ ap f q)
    from s c d (Memᴰ.tail m) e = Memᴰ.tail (s.from c (d, m, e))

-- lists of keys (the numbers of formulas, with focus) stand for sets of members
use Rattle.std.specs.Prelude.{◌≡◌, refl, List, ◌∷◌, ℕ}
use Rattle.std.proofs.Common.{sym, subst, ap, ap₂, ◌∙◌, inl, inr, arith}
use mathlib.Core.List.Memᴰ
use Rattle.verdict.specs.Sets.{Set, Same, ◌⊆◌, elements, without, image, ◌plus◌}
use Rattle.verdict.specs.Tests.{same, remove, each}
use Rattle.verdict.specs.Tests as tests
use Rattle.verdict.specs.Tells.{Tells, tells_as}
use Rattle.verdict.specs.SetTells.{member_tells, lists_self, lists_remove, lists_each}
use Rattle.verdict.proofs.SetTells.{same_tells}
use Rattle.formula.specs.Table.{Table}
use Rattle.formula.specs.Codes.{Formula, code, entry_of_lem, focus_of, code_entry, code_focus}
use Rattle.written.specs.Written.{written}
use Rattle.written.specs.Canon.{canon, key}
use Rattle.written.specs.CanonLaws.{canon_holds}
use Rattle.written.proofs.CanonLaws.{canon_formula, canon_written}
use Rattle.calculus.specs.Sequents.{Member, read}

module _ (t : Table) where
  -- a code whose entry may be a member
  abbrev pub Good : ℕ → Type 0
  Good c = Formula t (entry_of_lem c)

  key_entry : (c : ℕ) → entry_of_lem (key t c) ≡ canon t (entry_of_lem c)
  key_entry c = code_entry (canon t (entry_of_lem c)) (focus_of c) (omega arith)

  key_focus : (c : ℕ) → focus_of (key t c) ≡ focus_of c
  key_focus c = code_focus (canon t (entry_of_lem c)) (focus_of c) (omega arith)

  pub key_good : (c : ℕ) → Good c → Good (key t c)
  key_good c C = rw (key_entry c) (canon_formula t (entry_of_lem c) C)

  pub key_read : (c : ℕ) → Good c → read t (key t c) ≡ read t c
  key_read c C = ap₂ {C = Member} (λ a b. (a, b)) (ap (written t) (key_entry c) ∙ sym (canon_written t (entry_of_lem c) C)) (key_focus c)

  -- keys are the same just when members are
  pub key_says : (c d : ℕ) → Good c → Good d → key t c ≡ key t d → read t c ≡ read t d
  key_says c d C D q = sym (key_read c C) ∙ ap (read t) q ∙ key_read d D

  pub key_holds : (c d : ℕ) → read t c ≡ read t d → key t c ≡ key t d
  key_holds c d q = ap₂ {C = ℕ} code (canon_holds t (entry_of_lem c) (entry_of_lem d) (ap (λ (m : Member). m.0) q)) (ap (λ (m : Member). m.1) q)

  -- the list l of keys stands for the set S
  pub record Keys (l : List ℕ) (S : Set Member) : Type 0 where
    pub into : (n : ℕ) → elements l n → (c : ℕ) × Good c × (n ≡ key t c) × S (read t c)
    pub from : (m : Member) → S m → (c : ℕ) × Good c × (m ≡ read t c) × elements l (key t c)

  module _ {l : List ℕ} {S : Set Member} (K : Keys l S) where
    keys_in : (c : ℕ) → Good c → elements l (key t c) → S (read t c)
    keys_in c C n = let (d, D, q, s) = K.into (key t c) n in subst S (sym (key_says c d C D q)) s

    pub keys_out : (c : ℕ) → S (read t c) → elements l (key t c)
    keys_out c s = let (d, D, q, n) = K.from (read t c) s in subst (elements l) (sym (key_holds c d q)) n

    -- a key is the key of itself
    pub keys_self : (n : ℕ) → elements l n → S (read t n)
    keys_self n m = let (c, C, q, s) = K.into n m in subst S (sym (ap (read t) q ∙ key_read c C)) s

    pub member_key : (c : ℕ) → Good c → Tells (tests.member l (key t c)) (S (read t c))
    member_key c C = tells_as (keys_in c C) (keys_out c) (member_tells l (key t c))

    pub keys_plus : (c : ℕ) → Good c → Keys (key t c ∷ l) (S plus read t c)
    keys_plus c C = record { into = into; from = from }
      where
        into : (n : ℕ) → elements (key t c ∷ l) n → (d : ℕ) × Good d × (n ≡ key t d) × (S plus read t c) (read t d)
        into n (Memᴰ.head e) = (c, C, e, inr refl)
        into n (Memᴰ.tail m) = let (d, D, q, s) = K.into n m in (d, D, q, inl s)

        from : (m : Member) → (S plus read t c) m → (d : ℕ) × Good d × (m ≡ read t d) × elements (key t c ∷ l) (key t d)
        from m (inl s) = let (d, D, q, n) = K.from m s in (d, D, q, Memᴰ.tail n)
        from m (inr e) = (c, C, e, Memᴰ.head refl)

    -- every code of that member goes
    pub keys_remove : (c : ℕ) → Good c → Keys (remove (key t c) l) (without S (read t c))
    keys_remove c C =
        let L = lists_remove (key t c) l in
        record {
          into = λ n m. let (k, a) = L.into n m in let (d, D, q, s) = K.into n k in (d, D, q, (s, λ e. a (q ∙ key_holds d c e)));
          from = λ m (s, a). let (d, D, q, n) = K.from m s in (d, D, q, L.from (key t d) (n, λ e. a (q ∙ key_says d c D C e)));
        }

  -- the keys of listed codes, each first changed by g
  pub keys_image : (g : ℕ → ℕ) (l : List ℕ) → ((c : ℕ) → elements l c → Good (g c)) → Keys (each (λ c. key t (g c)) l) (image (λ c. read t (g c)) (elements l))
  keys_image g l F =
      let L = lists_each (λ c. key t (g c)) l in
      record {
        into = λ n m. let (c, k, q) = L.into n m in (g c, F c k, q, (c, k, refl));
        from = λ m (c, k, q). (g c, F c k, q, L.from (key t (g c)) (c, k, refl));
      }

  module _ {l r : List ℕ} {S R : Set Member} (K : Keys l S) (J : Keys r R) where
    members_⊆ : elements l ⊆ elements r → S ⊆ R
    members_⊆ f m s = let (c, C, q, n) = K.from m s in subst R (sym q) (keys_in J c C (f (key t c) n))

    lists_⊆ : S ⊆ R → elements l ⊆ elements r
    lists_⊆ f n k = let (c, C, q, s) = K.into n k in subst (elements r) (sym q) (keys_out J c (f (read t c) s))

  pub same_keys : {l r : List ℕ} {S R : Set Member} → Keys l S → Keys r R → Tells (same l r) (Same S R)
  same_keys {l} {r} K J = tells_as
      (λ e. record { into = members_⊆ K J e.into; from = members_⊆ J K e.from })
      (λ e. record { into = lists_⊆ K J e.into; from = lists_⊆ J K e.from })
      (same_tells l (lists_self r))

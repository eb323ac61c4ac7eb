-- a file is decoded just when it is an encoding, and refused with a number at a place just when it earns that
use Rattle.std.specs.Prelude.{◌≡◌, ◌↔◌, ◌⊎◌, Bool, eqb, get_or, drop}
use Rattle.std.proofs.Math.Path.{refl, ap}
use Rattle.std.proofs.Common.{sym, subst, ◌∙◌, inl, inr, length-append}
use mathlib.Core.List.{List, [], ◌∷◌, ◌++◌, append-nil}
use Rattle.std.proofs.Math.Bool.{true, false}
use Prim.Native.Nat.{ℕ, suc, ◌+◌}
use native.Mathlib.Omega.{arith}
use Rattle.std.proofs.Math.ListN.{length}
use Rattle.verdict.specs.Lists.{more}
use Rattle.verdict.specs.Tells.{Tells, fails, eqb_tells}
use Rattle.encoding.specs.Encode.{Bytes}
use Rattle.encoding.specs.Parse.{Got, fault, got, Parser}
use Rattle.encoding.specs.Stages as Stages
use Rattle.encoding.specs.Stages.{Stages, Stopped}
use Rattle.encoding.specs.File.{Reading, refused, good, ending, read_file, Encodes, Earned, no_opening, ends_early, wrong, bytes_follow}
use Rattle.encoding.specs.ParseLaws.{Exact, left_off}
use Rattle.encoding.specs.FaultLaws.{Refuses}
use Rattle.encoding.specs.FileLaws.{Opens, closed, earned_refused, file_good, good_same, opened, refused_not_good, refused_same}

-- the letters stand in front or not
opens_or_not : (l s : List ℕ) → Opens l s ⊎ (Opens l s → ⊥)
opens_or_not [] s = inl (s, refl)
opens_or_not (c ∷ l) [] = inr (λ (r, e). let z : ◌≡◌ {A = ℕ} 0 (suc (length (l ++ r))) = ap length e in omega arith)
opens_or_not (c ∷ l) (x ∷ s) = go (eqb x c) (eqb_tells x c) (opens_or_not l s)
  where
    go : (b : Bool) → Tells b (x ≡ c) → Opens l s ⊎ (Opens l s → ⊥) → Opens (c ∷ l) (x ∷ s) ⊎ (Opens (c ∷ l) (x ∷ s) → ⊥)
    go false t o = inr (λ (r, e). fails t refl (ap (λ (u : List ℕ). get_or u 0 0) e))
    go true t (inl (r, e)) = inl (r, rw (t.says refl, e) refl)
    go true t (inr f) = inr (λ (r, e). f (r, ap (λ (u : List ℕ). drop 1 u) e))

bytes_after : (l : List ℕ) {r : List ℕ} → Bytes (l ++ r) → Bytes r
bytes_after [] b = b
bytes_after (x ∷ l) (more h b) = bytes_after l b

module _ {A : Type 0} (opening : List ℕ) (number early : ℕ) (body : Parser A) where
  abbrev read : List ℕ → Reading A
  read bytes = read_file opening number early body bytes

  ending_good : (g : Got A) {x : A} → ending early g ≡ good x → (o : ℕ) × (g ≡ got x [] o)
  ending_good (fault n q) h = absurd (refused_not_good h)
  ending_good (got y [] o) h = (o, rw (good_same h) refl)
  ending_good (got y (z ∷ r) o) h = absurd (refused_not_good h)

  ending_refused : (g : Got A) {n q : ℕ} → ending early g ≡ refused n q
      → (g ≡ fault n q) ⊎ ((x : A) × (y : ℕ) × (r : List ℕ) × (g ≡ got x (y ∷ r) q) × (early ≡ n))
  ending_refused (fault m r) h = let (i, j) = refused_same h in inl (rw (i, j) refl)
  ending_refused (got x [] o) h = absurd (refused_not_good (sym h))
  ending_refused (got x (y ∷ r) o) h = let (i, j) = refused_same h in inr (x, y, r, rw j refl, i)

  module _ {enc : A → List ℕ} {Ok : A → Type 0} (E : Exact body enc Ok) where
    -- what is decoded is an encoding, of what was decoded
    pub good_file : {bytes : List ℕ} {x : A} → Bytes bytes → read bytes ≡ good x → Encodes opening enc Ok bytes x
    good_file {bytes} {x} b h = go (opens_or_not opening bytes)
      where
        go : Opens opening bytes ⊎ (Opens opening bytes → ⊥) → Encodes opening enc Ok bytes x
        go (inr f) = absurd (refused_not_good (sym (closed opening number early body bytes f) ∙ h))
        go (inl (r, e)) =
            let (o, g) = ending_good (body r (length opening)) (sym (opened opening number early body r) ∙ ap read (sym e) ∙ h) in
            let W = E.wrote r (length opening) x [] o (bytes_after opening (subst Bytes e b)) g in
            record { encoded = e ∙ ap (λ (t : List ℕ). opening ++ t) (W.split ∙ append-nil (enc x)); fits = W.fits }

    pub file_exact : {bytes : List ℕ} {x : A} → Bytes bytes → Encodes opening enc Ok bytes x ↔ (read bytes ≡ good x)
    file_exact b = (file_good opening number early body E, good_file b)

    module _ {X : Stages} (R : Refuses early body X) where
      abbrev Fault : List ℕ → ℕ → ℕ → Type 0
      Fault bytes n q = Earned opening number early enc Ok X bytes n q

      -- no number lies
      pub refused_earned : {bytes : List ℕ} {n q : ℕ} → Bytes bytes → read bytes ≡ refused n q → Fault bytes n q
      refused_earned {bytes} {n} {q} b h = go (opens_or_not opening bytes)
        where
          move : {m o k r : ℕ} → m ≡ k → o ≡ r → Fault bytes m o → Fault bytes k r
          move {o = o} {k = k} i j f = subst (λ r. Fault bytes k r) j (subst (λ m. Fault bytes m o) i f)

          place : (r : List ℕ) → bytes ≡ opening ++ r → length bytes ≡ length opening + length r
          place r e = ap length e ∙ length-append opening r

          stopped : (r : List ℕ) → bytes ≡ opening ++ r → {n q : ℕ} → Stopped early X r (length opening) n q → Fault bytes n q
          stopped r e (Stages.ends_early σ t u i l) = move refl (place r e) (ends_early σ t u (e ∙ ap (λ (t : List ℕ). opening ++ t) i) l)
          stopped r e (Stages.wrong σ w t u i k) = wrong σ w t u (e ∙ ap (λ (t : List ℕ). opening ++ t) i) k

          inside : (r : List ℕ) → bytes ≡ opening ++ r → (body r (length opening) ≡ fault n q) ⊎ ((x : A) × (y : ℕ) × (t : List ℕ) × (body r (length opening) ≡ got x (y ∷ t) q) × (early ≡ n)) → Fault bytes n q
          inside r e (inl f) = stopped r e (R.says r (length opening) n q (bytes_after opening (subst Bytes e b)) f)
          inside r e (inr (x, y, t, g, i)) =
              let c = bytes_after opening (subst Bytes e b) in
              let W = E.wrote r (length opening) x (y ∷ t) q c g in
              move i (sym (left_off E r (length opening) x (y ∷ t) q c g)) (bytes_follow x y t W.fits (e ∙ ap (λ (t : List ℕ). opening ++ t) W.split))

          go : Opens opening bytes ⊎ (Opens opening bytes → ⊥) → Fault bytes n q
          go (inr f) = let (i, j) = refused_same (sym (closed opening number early body bytes f) ∙ h) in move i j (no_opening (λ r e. f (r, e)))
          go (inl (r, e)) = inside r e (ending_refused (body r (length opening)) (sym (opened opening number early body r) ∙ ap read (sym e) ∙ h))

      pub refusal_exact : {bytes : List ℕ} {n q : ℕ} → Bytes bytes → (read bytes ≡ refused n q) ↔ Fault bytes n q
      refusal_exact b = (refused_earned b, earned_refused opening number early body E R)

      pub one_refusal : {bytes : List ℕ} {n q m r : ℕ} → Fault bytes n q → Fault bytes m r → (n ≡ m) × (q ≡ r)
      one_refusal f g = refused_same {A = A} (sym (earned_refused opening number early body E R f) ∙ earned_refused opening number early body E R g)

      pub not_both : {bytes : List ℕ} {x : A} {n q : ℕ} → Encodes opening enc Ok bytes x → Fault bytes n q → ⊥
      not_both f g = refused_not_good (sym (earned_refused opening number early body E R g) ∙ file_good opening number early body E f)

      -- a file is an encoding or earns a refusal
      pub outcome : (bytes : List ℕ) → Bytes bytes → ((x : A) × Encodes opening enc Ok bytes x) ⊎ ((n : ℕ) × (q : ℕ) × Fault bytes n q)
      outcome bytes b = go (read bytes) refl
        where
          go : (z : Reading A) → read bytes ≡ z → ((x : A) × Encodes opening enc Ok bytes x) ⊎ ((n : ℕ) × (q : ℕ) × Fault bytes n q)
          go (good x) h = inl (x, good_file b h)
          go (refused n q) h = inr (n, q, refused_earned b h)

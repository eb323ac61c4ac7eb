-- a claim file is refused with a number at a place just when its bytes earn that
use Rattle.std.specs.Prelude.{◌≡◌, refl, ◌↔◌, ◌⊎◌, List, Bool, true, false, ℕ}
use Rattle.std.proofs.Common.{sym, subst, ◌∙◌, inl, inr}
use Rattle.formula.specs.Claim.{Form, clm1, clm2, SpelledClaim}
use Rattle.formula.specs.NamedForm.{form_by}
use Rattle.encoding.specs.Encode.{Bytes}
use Rattle.encoding.specs.File.{Reading, refused, good}
use Rattle.encoding.specs.FileLaws as File
use Rattle.encoding.proofs.FileLaws as FileProofs
use Rattle.encoding.specs.FileLaws.{Opens}
use Rattle.encoding.specs.Opening.{opens, opens_tells}
use Rattle.claim_files.specs.ClaimFile.{claim_opening, ClaimFile}
use Rattle.claim_files.specs.ReadClaim.{early, body, read_form, form_of, read_claim_lem}
use Rattle.claim_files.specs.ClaimExact.{form_opens, read_in}
use Rattle.claim_files.proofs.ClaimExact.{body_exact, claim_good, good_claim}
use Rattle.claim_files.proofs.ClaimParts.{body_refuses}
use Rattle.claim_files.specs.ClaimDocument.{FormEarns, ClaimEarns, no_opening, by_form}
use Rattle.claim_files.specs.ClaimFaults.{closed, neither}

module _ (f : Form) where
  -- a file of one form
  form_earned : {bytes : List ℕ} {n q : ℕ} → Bytes bytes → read_form f bytes ≡ refused n q → FormEarns f bytes n q
  unfolding read_form
  form_earned b h = FileProofs.refused_earned (claim_opening f) 10 early (body f) (body_exact f) (body_refuses f) b h

  form_refused : {bytes : List ℕ} {n q : ℕ} → FormEarns f bytes n q → read_form f bytes ≡ refused n q
  unfolding read_form
  form_refused e = File.earned_refused (claim_opening f) 10 early (body f) (body_exact f) (body_refuses f) e

-- CLM2 by its opening, and else CLM1
opened : (bytes : List ℕ) → ((f : Form) → Opens (claim_opening f) bytes → ⊥) ⊎ Opens (claim_opening (form_of bytes)) bytes
opened bytes = go (opens (claim_opening clm2) bytes) refl (opens (claim_opening clm1) bytes) refl
  where
    go : (b : Bool) → opens (claim_opening clm2) bytes ≡ b → (c : Bool) → opens (claim_opening clm1) bytes ≡ c
        → ((f : Form) → Opens (claim_opening f) bytes → ⊥) ⊎ Opens (claim_opening (form_by b)) bytes
    go true e c i = inr ((opens_tells (claim_opening clm2) bytes).says e)
    go false e true i = inr ((opens_tells (claim_opening clm1) bytes).says i)
    go false e false i = inl (neither bytes i e)

-- no number lies
pub claim_earned : {bytes : List ℕ} {n q : ℕ} → Bytes bytes → read_claim_lem bytes ≡ refused n q → ClaimEarns bytes n q
claim_earned {bytes} {n} {q} b h = go (opened bytes)
  where
    go : ((f : Form) → Opens (claim_opening f) bytes → ⊥) ⊎ Opens (claim_opening (form_of bytes)) bytes → ClaimEarns bytes n q
    go (inl c) =
        let (i, j) = File.refused_same {A = SpelledClaim} (sym (closed bytes c) ∙ h) in
        subst (λ (q : ℕ). ClaimEarns bytes n q) j (subst (λ (n : ℕ). ClaimEarns bytes n 0) i (no_opening c))
    go (inr o) = by_form (form_of bytes) o (form_earned (form_of bytes) b (sym (read_in (form_of bytes) bytes refl) ∙ h))

-- and each is given where it is earned
pub claim_refused : {bytes : List ℕ} {n q : ℕ} → ClaimEarns bytes n q → read_claim_lem bytes ≡ refused n q
claim_refused {bytes} (no_opening c) = closed bytes c
claim_refused {bytes} (by_form f o e) = read_in f bytes (form_opens f bytes o) ∙ form_refused f e

-- exactly what the documents say is refused, with its number and place
pub claim_refusal : {bytes : List ℕ} {n q : ℕ} → Bytes bytes → (read_claim_lem bytes ≡ refused n q) ↔ ClaimEarns bytes n q
claim_refusal b = (claim_earned b, claim_refused)

pub one_claim_refusal : {bytes : List ℕ} {n q m r : ℕ} → ClaimEarns bytes n q → ClaimEarns bytes m r → (n ≡ m) × (q ≡ r)
one_claim_refusal e g = File.refused_same {A = SpelledClaim} (sym (claim_refused e) ∙ claim_refused g)

pub claim_or_refusal : (bytes : List ℕ) → Bytes bytes → ((c : SpelledClaim) × ClaimFile bytes c) ⊎ ((n : ℕ) × (q : ℕ) × ClaimEarns bytes n q)
claim_or_refusal bytes b = go (read_claim_lem bytes) refl
  where
    go : (z : Reading SpelledClaim) → read_claim_lem bytes ≡ z → ((c : SpelledClaim) × ClaimFile bytes c) ⊎ ((n : ℕ) × (q : ℕ) × ClaimEarns bytes n q)
    go (good c) h = inl (c, good_claim b h)
    go (refused n q) h = inr (n, q, claim_earned b h)

pub claim_not_both : {bytes : List ℕ} {c : SpelledClaim} {n q : ℕ} → ClaimFile bytes c → ClaimEarns bytes n q → ⊥
claim_not_both k e = File.refused_not_good (sym (claim_refused e) ∙ claim_good k)

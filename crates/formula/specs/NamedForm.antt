-- the form that a test tells, and the form that a number names, as the code asks for it: CLM2 by its own number, and else CLM1
use Rattle.std.specs.Prelude.{◌≡◌, Bool, true, false, ℕ, eqb}
use Rattle.std.proofs.Common.{subst, ap, eq-eqb, ne_eqb}
use Rattle.formula.specs.Claim.{Form, clm1, clm2, form_number}

abbrev pub form_by : Bool → Form
form_by true = clm2
form_by false = clm1

abbrev pub named_form : ℕ → Form
named_form n = form_by (eqb n (form_number clm2))

module _ {n : ℕ} where
  pub names_several : n ≡ form_number clm2 → named_form n ≡ clm2
  names_several e = ap form_by (eq-eqb n (form_number clm2) e)

  pub names_one : (n ≡ form_number clm2 → ⊥) → named_form n ≡ clm1
  names_one d = ap form_by (ne_eqb n (form_number clm2) d)

  pub names : (f : Form) → n ≡ form_number f → named_form n ≡ f
  names clm1 e = ap named_form e
  names clm2 e = ap named_form e

  -- what holds of the form that the code takes holds of the one that is meant
  pub for_named : (P : Form → Type 0) → P (named_form n) → (f : Form) → n ≡ form_number f → P f
  for_named P p f e = subst P (names f e) p

-- the parts of a claim file up to its goals: each is read as it was encoded, and encoded as it was read
use Rattle.std.specs.Prelude.{◌≡◌, List, ◌++◌, ℕ, ◌<◌, ◌≤◌, get_or}
use Rattle.std.proofs.Math.Path.{refl}
use Rattle.std.proofs.Common.{sym, ap, ◌∙◌, inl, inr, arith}
use Rattle.verdict.specs.Tells.{Tells, tells_as, and_tells, or_tells, leb_tells, eqb_tells, fails_holds}
use Rattle.formula.specs.Kind
use Rattle.formula.specs.Spelled.{Spelled, a_stands_lem, b_stands_lem, records_of, by_length, record_of}
use Rattle.formula.specs.Claim.{Form, clm1, clm2, fewest, SpelledClaim}
use Rattle.formula.specs.NamedForm.{form_by}
use Rattle.bits.specs.IfSet.{if_set_le}
use Rattle.formula.specs.Fields.{has_a_lem, has_b, is_modal_lem, map_of}
use Rattle.encoding.specs.Encode.{FitField, PairOfBytes, encode_pair}
use Rattle.encoding.specs.ParseLaws.{Exact, exact_as, seq_exact, via_exact, guard_exact, bytes_exact, two_exact}
use Rattle.encoding.specs.ChainLaws.{each_as}
use Rattle.encoding.specs.ListLaws.{count_exact, listed_exact}
use Rattle.encoding.proofs.ListLaws.{rising_exact}
use Rattle.encoding.specs.FileLaws.{Opens}
use Rattle.encoding.specs.Opening.{opens_tells}
use Rattle.encoding.specs.Known.{known_exact}
use Rattle.formula.specs.Members.{formula_tells}
use Rattle.encoding.proofs.FieldLaws.{field_exact}
use Rattle.claim_files.specs.ClaimFile.{claim_opening, encode_fields, encode_entry, encode_entries, encode_members, encode_goal_count, encode_body}
use Rattle.claim_files.specs.ClaimFile.{FitMap, FitKind, FitEntry, FitEntries, FitMembers, GoalCount, FormFile, ClaimFile}
use Rattle.claim_files.specs.ReadClaim.{early, kind_fits, map_and_kind, fields, made, entry, entries, members, goal_count, read_form, form_of, read_claim_lem}

pub map_byte : (k : ℕ) → map_of k < 256
map_byte k = omega (arith, if_set_le (has_a_lem k) 1, if_set_le (has_b k) 2)

-- a map that fits is a byte
pub fit_byte : (m k : ℕ) → FitMap m k → m < 256
fit_byte m k (inl e) = rw e (map_byte k)
fit_byte m k (inr (_, _, e)) = omega arith

modal_tells : (k : ℕ) → Tells (is_modal_lem k) ((Kind.DIAMOND ≤ k) × (k ≤ Kind.BOX))
modal_tells k = and_tells (leb_tells Kind.DIAMOND k) (leb_tells k Kind.BOX)

pub kind_tells : (p : ℕ × ℕ) → Tells (kind_fits p) (FitKind p)
kind_tells p =
    and_tells (leb_tells p.1 Kind.NAME)
    (or_tells (eqb_tells p.0 (map_of p.1))
    (tells_as (λ ((l, m), e). (l, m, e)) (λ (l, m, e). ((l, m), e)) (and_tells (modal_tells p.1) (eqb_tells p.0 3))))

pub kind_exact : Exact map_and_kind encode_pair (λ p. PairOfBytes p × FitKind p)
kind_exact = guard_exact (bytes_exact early) 13 kind_tells

pub fields_exact : (m : ℕ) → Exact (fields m) (encode_fields m) (λ w. FitField (a_stands_lem m) w.0 × FitField (b_stands_lem m) w.1)
fields_exact m = seq_exact (field_exact early (a_stands_lem m)) (λ _ _. field_exact early (b_stands_lem m))

pub entry_exact : Exact entry encode_entry FitEntry
entry_exact =
    via_exact (seq_exact kind_exact (λ p _. fields_exact p.0)) made (λ e. ((e.map, e.kind), (e.a, e.b)))
    (λ e h. ((((fit_byte e.map e.kind h.fits, omega (arith, h.known)), (h.known, h.fits)), (h.a_fits, h.b_fits)), refl, refl))
    (λ w h. (record { known = h.0.1.0; fits = h.0.1.1; a_fits = h.1.0; b_fits = h.1.1 }, refl))

pub entries_exact : (f : Form) → Exact (entries f) encode_entries (FitEntries f)
unfolding entries
entries_exact f =
    exact_as (λ es h. record { count = h.0.1; each = h.1 }) (λ es k. ((omega (arith, k.count), k.count), k.each))
    (listed_exact (count_exact (fewest f) 256 12 (two_exact early)) entry_exact)

pub members_exact : (f : Form) (es : List Spelled) → FitEntries f es → Exact (members es) encode_members (FitMembers es)
unfolding members
members_exact f es k =
    exact_as
    (λ ms h. record { count = h.0.1; rising = h.1; each = each_as (λ m (_, q). q) h.2 })
    (λ ms h. ((omega (arith, h.count), h.count), h.rising, each_as (λ m q. (omega (arith, q.inside, k.count, by_length record_of es), q)) h.each))
    (rising_exact (count_exact 1 24 12 (two_exact early)) (two_exact early) (formula_tells (records_of es)) 14)

pub goal_count_exact : (f : Form) → Exact (goal_count f) (encode_goal_count f) (GoalCount f)
goal_count_exact clm1 = known_exact 1
goal_count_exact clm2 = exact_as (λ n h. h.1) (λ n h. (omega arith, h)) (count_exact 0 16 72 (two_exact early))

-- the two openings differ in their last letter
one_opening : {bytes : List ℕ} → Opens (claim_opening clm1) bytes → Opens (claim_opening clm2) bytes → ⊥
one_opening (r, e) (t, i) =
    let z : ◌≡◌ {A = ℕ} 49 50 = sym (ap (λ (s : List ℕ). get_or s 3 0) e) ∙ ap (λ (s : List ℕ). get_or s 3 0) i in
    omega arith

-- a file that opens as one of a form is read as one of it
pub form_opens : (f : Form) (bytes : List ℕ) → Opens (claim_opening f) bytes → form_of bytes ≡ f
form_opens clm1 bytes o = ap form_by (fails_holds (opens_tells (claim_opening clm2) bytes) (one_opening o))
form_opens clm2 bytes o = ap form_by ((opens_tells (claim_opening clm2) bytes).holds o)

pub read_in : (f : Form) (bytes : List ℕ) → form_of bytes ≡ f → read_claim_lem bytes ≡ read_form f bytes
unfolding read_claim_lem
read_in f bytes e = ap (λ (g : Form). read_form g bytes) e

pub claim_form : {f : Form} {bytes : List ℕ} {c : SpelledClaim} → FormFile f bytes c → ClaimFile bytes c
claim_form {f} {bytes} {c} k = record { encoded = k.encoded ∙ ap (λ (g : Form). claim_opening g ++ encode_body c) (sym k.fits.0); fits = k.fits.1 }

pub form_claim : {bytes : List ℕ} {c : SpelledClaim} → ClaimFile bytes c → FormFile c.form bytes c
form_claim k = record { encoded = k.encoded; fits = (refl, k.fits) }

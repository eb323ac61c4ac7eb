-- a claim file's first bytes, judged by themselves: its opening, its entry count and its first entry, if there is one
use Rattle.std.specs.Prelude.{◌≡◌, Bool, true, false, List, [], ℕ, ◌+◌, eqb}
use Rattle.std.proofs.Math.Path.{sym, ap}
use Rattle.std.proofs.Common.{◌∙◌, arith, eq-eqb, ne_eqb}
use Rattle.verdict.specs.Verdict as verdicts
use Rattle.verdict.specs.Verdict.{Verdict, accepted, pick}
use Rattle.formula.specs.Spelled.{Spelled}
use Rattle.formula.specs.Claim.{fewest, SpelledClaim}
use Rattle.formula.specs.NamedForm.{named_form}
use Rattle.encoding.specs.Parse.{Got, fault, got}
use Rattle.encoding.specs.File.{Reading, refused}
use Rattle.encoding.specs.Places.{InFile}
use Rattle.encoding.specs.Walk.{Reached}
use Rattle.claim_files.specs.ReadClaim.{early, read_claim_lem}
use Rattle.file_parts.specs.Numbers.{count_at_lem}
use Rattle.claim_entries.specs.ClaimEntry.{entry_at}
use Rattle.claim_entries.specs.ClaimEntries.{entries_at, entries_start, entries_cut, none_entered, entering_stops}
use Rattle.claims.specs.ClaimWalk.{opening_form_lem, claim_closed, claim_opened, claim_no_entries}

-- what a first entry earns by itself, and what the count before it does
abbrev earns : {A : Type 0} → Got A → Verdict
earns (fault n q) = verdicts.refused n q
earns (got x r o) = accepted

abbrev counted : List ℕ → Got ℕ → Verdict
counted s (fault n q) = verdicts.refused n q
counted s (got k r o) = pick (eqb k 0) accepted (earns (entry_at s o))

-- what the opening, the entry count and the first entry earn
unfoldable pub beginning : List ℕ → Verdict
unfolding opening_form_lem count_at_lem entry_at
beginning s = pick (eqb (opening_form_lem s) 0) (verdicts.refused 10 0) (counted s (count_at_lem (fewest (named_form (opening_form_lem s))) 256 12 early s 4))

-- a refusal is that of the whole file; acceptance says nothing of it
abbrev pub BeginningTells : Reading SpelledClaim → Verdict → Type 0
BeginningTells r accepted = Unit {0}
BeginningTells r (verdicts.refused n q) = r ≡ refused n q

-- in an arm that knows which answer it is
pub beginning_refused : {r : Reading SpelledClaim} {v : Verdict} → BeginningTells r v → {n q : ℕ} → v ≡ verdicts.refused n q → r ≡ refused n q
beginning_refused t e = rw e at t

-- where a count that was read is not 0 there is a first entry, and its fault is the entries'
module _ (least : ℕ) (s : List ℕ) {k o : ℕ} (c : Reached s (4 + 2) (count_at_lem least 256 12 early s 4) k o) where
  pub first_place : InFile s 65000 o
  first_place = record { within = c.inside; low = omega (arith, c.near) }

  pub first_cut : (k ≡ 0 → ⊥) → {n q : ℕ} → entry_at s o ≡ fault n q → entries_at least s 4 ≡ fault n q
  first_cut some e = entries_start least s 4 c ∙ entering_stops s o k [] [] [] (none_entered s o k [] [] [] c.inside) (omega arith) e

-- the beginning is judged, and a refusal of it stands
pub record Begun (s : List ℕ) (v : Verdict) : Type 0 where
  pub earned : v ≡ beginning s
  pub stands : BeginningTells (read_claim_lem s) v

module _ (s : List ℕ) {f : ℕ} (test : f ≡ opening_form_lem s) where
  abbrev by_opening : Bool → Verdict
  by_opening b = pick b (verdicts.refused 10 0) (counted s (count_at_lem (fewest (named_form (opening_form_lem s))) 256 12 early s 4))

  pub begun_closed : f ≡ 0 → Begun s (verdicts.refused 10 0)
  unfolding beginning
  begun_closed h = record { earned = sym (ap by_opening (eq-eqb (opening_form_lem s) 0 (sym test ∙ h))); stands = claim_closed s test h }

  module _ (h : f ≡ 0 → ⊥) {least : ℕ} (as_form : least ≡ fewest (named_form f)) where
    -- past the opening
    open_beginning : beginning s ≡ counted s (count_at_lem least 256 12 early s 4)
    unfolding beginning
    open_beginning =
        ap by_opening (ne_eqb (opening_form_lem s) 0 (λ e. h (test ∙ e)))
        ∙ ap (λ (k : ℕ). counted s (count_at_lem k 256 12 early s 4)) (sym (as_form ∙ ap (λ (n : ℕ). fewest (named_form n)) test))

    pub begun_uncounted : {n q : ℕ} → count_at_lem least 256 12 early s 4 ≡ fault n q → Begun s (verdicts.refused n q)
    begun_uncounted e = record { earned = sym (open_beginning ∙ ap (counted s) e); stands = claim_no_entries s (claim_opened s test h) as_form (entries_cut least s 4 e) }

    module _ {k o : ℕ} (c : Reached s (4 + 2) (count_at_lem least 256 12 early s 4) k o) where
      by_count : (b : Bool) → eqb k 0 ≡ b → beginning s ≡ pick b accepted (earns (entry_at s o))
      by_count b e = open_beginning ∙ ap (counted s) c.found ∙ ap (λ (b : Bool). pick b accepted (earns (entry_at s o))) e

      pub begun_empty : k ≡ 0 → Begun s accepted
      begun_empty e = record { earned = sym (by_count true (eq-eqb k 0 e)); stands = tt }

      module _ (some : k ≡ 0 → ⊥) where
        pub begun_cut : {n q : ℕ} → entry_at s o ≡ fault n q → Begun s (verdicts.refused n q)
        begun_cut e = record {
          earned = sym (by_count false (ne_eqb k 0 some) ∙ ap earns e);
          stands = claim_no_entries s (claim_opened s test h) as_form (first_cut least s c some e);
        }

        pub begun_passed : {x : Spelled} {z : ℕ} {r : List ℕ} → entry_at s o ≡ got x r z → Begun s accepted
        begun_passed e = record { earned = sym (by_count false (ne_eqb k 0 some) ∙ ap earns e); stands = tt }

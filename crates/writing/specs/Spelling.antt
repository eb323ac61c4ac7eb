-- how the writer spells a record: with the map of its kind, or map 3 for a box or diamond with an action other than 0. No 0 is written out,
-- and a claim that passes has no other spelling
use Rattle.std.specs.Prelude.{◌≡◌, refl, List, [], ◌∷◌, map, Bool, true, false, not, ◌&&◌, ℕ, zero, suc, ◌+◌, eqb}
use Rattle.std.proofs.Common.{sym, ap, subst, ◌∙◌, inl, inr, arith, eq-eqb}
use Rattle.std.proofs.Math.Path.{fun_ext}
use Rattle.verdict.specs.Tests.{choose}
use Rattle.verdict.specs.Tells.{and_tells, leb_tells, fails_holds}
use Rattle.bits.specs.IfSet.{if_set_lem}
use Rattle.formula.specs.Kind
use Rattle.formula.specs.Table.{Entry, Table}
use Rattle.formula.specs.Spelled.{Spelled, a_stands_lem, b_stands_lem, record_of, zero_written, table_by, records_of, zeros}
use Rattle.formula.specs.Claim.{Form, SpelledClaim, claim_of}
use Rattle.formula.specs.Fields.{has_a_lem, has_b, is_modal_lem, map_of}
use Rattle.conditions.specs.Judge.{plainly, judge_table}
use Rattle.encoding.specs.Encode.{FitField}
use Rattle.claim_files.specs.ClaimFile.{FitMap, FitEntry}

abbrev pub map_for_lem : ℕ → ℕ → ℕ
map_for_lem k b = choose (is_modal_lem k && not (eqb b 0)) 3 (map_of k)

abbrev pub spelled_as : Entry → Spelled
spelled_as e = record { map = map_for_lem e.kind e.b; kind = e.kind; a = e.a; b = e.b }

abbrev pub spelling_of : Table → List Spelled
spelling_of es = map spelled_as es

abbrev pub spelled_claim : Form → Table → List (List ℕ) → SpelledClaim
spelled_claim f es goals = record { form = f; spelling = spelling_of es; goals = goals }

-- a box or diamond has A, and B only by its map
pub modal_fields : (k : ℕ) → is_modal_lem k ≡ true → (has_a_lem k ≡ true) × (has_b k ≡ false)
modal_fields k h =
    let (low, high) = (and_tells (leb_tells Kind.DIAMOND k) (leb_tells k Kind.BOX)).says h in (
      (and_tells (leb_tells Kind.LETTER k) (leb_tells k Kind.NAME)).holds (omega arith, omega arith),
      fails_holds (and_tells (leb_tells Kind.OR k) (leb_tells k Kind.AND)) (λ w. omega (arith, w.1)),
    )

-- a map's bits stand as it was made of them
pub bits_stand : (a b : Bool) → (a_stands_lem (if_set_lem a 1 + if_set_lem b 2) ≡ a) × (b_stands_lem (if_set_lem a 1 + if_set_lem b 2) ≡ b)
bits_stand true true = (refl, refl)
bits_stand true false = (refl, refl)
bits_stand false true = (refl, refl)
bits_stand false false = (refl, refl)

-- no 0 is written out
pub none_written : (e : Entry) → zero_written (spelled_as e) ≡ false
none_written e = go (is_modal_lem e.kind) refl (eqb e.b 0)
  where
    go : (m : Bool) → is_modal_lem e.kind ≡ m → (z : Bool) → m && (b_stands_lem (choose (m && not z) 3 (map_of e.kind)) && z) ≡ false
    go false h z = refl
    go true h false = refl
    go true h true = let (p, q) = modal_fields e.kind h in rw (p, q) refl

pub zeros_unwritten : (es : Table) (e : ℕ) → zeros (spelling_of es) e ≡ false
zeros_unwritten [] e = refl
zeros_unwritten (x ∷ es) zero = none_written x
zeros_unwritten (x ∷ es) (suc e) = zeros_unwritten es e

-- the records of the spelling are those that were spelled
pub records_spelled : (es : Table) → records_of (spelling_of es) ≡ es
unfolding table_by
records_spelled [] = refl
records_spelled (e ∷ es) = ap (λ (t : Table). e ∷ t) (records_spelled es)

pub claim_spelled : (f : Form) (es : Table) (goals : List (List ℕ)) → claim_of (spelled_claim f es goals) ≡ record { form = f; entries = es; goals = goals }
claim_spelled f es goals = ap (λ (t : Table). record { form = f; entries = t; goals = goals }) (records_spelled es)

-- so the conditions are judged of the records alone
pub spelled_judged : (es : Table) → judge_table (zeros (spelling_of es)) (records_of (spelling_of es)) ≡ judge_table plainly es
spelled_judged es = ap (λ (z : ℕ → Bool). judge_table z (records_of (spelling_of es))) (fun_ext (zeros_unwritten es)) ∙ ap (judge_table plainly) (records_spelled es)

-- an entry of a file has this spelling, unless it writes a 0 out
module _ (s : Spelled) (f : FitEntry s) (unwritten : zero_written s ≡ false) where
  map_same : FitMap s.map s.kind → (m : Bool) → is_modal_lem s.kind ≡ m → map_for_lem s.kind s.b ≡ s.map
  map_same (inl e) false h = rw h (sym e)
  map_same (inl e) true h =
      let (p, q) = modal_fields s.kind h in
      let one : s.map ≡ 1 = e ∙ ap (λ (b : Bool). if_set_lem b 1 + if_set_lem (has_b s.kind) 2) p ∙ ap (λ (b : Bool). 1 + if_set_lem b 2) q in
      let none_there : s.b ≡ 0 = subst (λ (m : ℕ). FitField (b_stands_lem m) s.b) one f.b_fits in
      rw (h, eq-eqb s.b 0 none_there) (sym e)
  map_same (inr (low, high, e)) m h =
      let modal : is_modal_lem s.kind ≡ true = (and_tells (leb_tells Kind.DIAMOND s.kind) (leb_tells s.kind Kind.BOX)).holds (low, high) in
      let other : eqb s.b 0 ≡ false = ap (λ (m : ℕ). b_stands_lem m && eqb s.b 0) (sym e) ∙ ap (λ (m : Bool). m && (b_stands_lem s.map && eqb s.b 0)) (sym modal) ∙ unwritten in
      rw (modal, other) (sym e)

  pub spelled_so : spelled_as (record_of s) ≡ s
  spelled_so = ap (λ (m : ℕ). record { map = m; kind = s.kind; a = s.a; b = s.b }) (map_same f.fits (is_modal_lem s.kind) refl)

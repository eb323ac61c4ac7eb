-- the records of a claim: what is given, what may be written, and what is laid down
use Rattle.std.specs.Prelude.{◌≡◌, List, Bool, true, false, ℕ, ◌≤◌, eqb, ltb, length, take}
use Rattle.std.proofs.Math.Path.{refl, ap}
use Rattle.std.proofs.Common.{◌∙◌, arith, ltb-false, le-ltb, eq-eqb, le-leb, length-take-le}
use Rattle.verdict.specs.Verdict as verdicts
use Rattle.verdict.specs.Verdict.{Verdict, accepted}
use Rattle.verdict.specs.Tests.{choose}
use Rattle.formula.specs.Table.{Table}
use Rattle.formula.specs.Claim as claims
use Rattle.formula.specs.Claim.{Form, clm1, clm2, form_number, Claim}
use Rattle.conditions.specs.Judge.{plainly, judge_table}
use Rattle.encoding.specs.Encode.{FitField}
use Rattle.encoding.specs.File.{Reading, refused, good}
use Rattle.encoding.specs.FileLaws.{good_same, refused_not_good}
use Rattle.encoding.specs.Parse.{pick}
use Rattle.claim_files.specs.ClaimFile.{GoalCount}
use Rattle.reader.specs.Files.{firstly, and_then, formed, read_formed_lem}
use Rattle.writing.specs.RecordBytes.{clipped, split}
use Rattle.writing.specs.Goals.{goals_fit, joined, lengths}
use Rattle.writing.specs.Spelling.{spelled_claim, claim_spelled, spelled_judged}
use Rattle.writing.specs.Writing.{ClaimRecords, claim_file, short_claim, if_form, if_room, if_long, stopped, claim_reading, writing_claim}
use Rattle.writing.specs.FieldEnds.{may_hold_lem}
use Rattle.writing.specs.ClaimEnds.{longest_claim}

-- the claim that records stand for, in a form
abbrev pub claim_of : Form → ClaimRecords → Claim
claim_of f c = record { form = f; entries = take c.count c.entries; goals = split c.counts c.members }

-- whatever a reading was, it is good only if its first part was
pub and_good : {A B : Type 0} (r : Reading A) (f : A → Reading B) {y : B} → and_then r f ≡ good y → (x : A) × (r ≡ good x) × (f x ≡ good y)
and_good (refused n q) f h = absurd (refused_not_good h)
and_good (good x) f h = (x, refl, h)

pub first_good : {A : Type 0} (v : Verdict) (r : Reading A) {y : A} → firstly v r ≡ good y → (v ≡ accepted) × (r ≡ good y)
first_good accepted r h = (refl, h)
first_good (verdicts.refused n q) r h = absurd (refused_not_good h)

pub long_enough : (c : ClaimRecords) → short_claim c ≡ false → c.count ≤ 256 → length (take c.count c.entries) ≡ c.count
long_enough c h few = length-take-le c.count c.entries (omega (arith, ltb-false (length c.entries) 256 h))

-- a reading of a file that stops is never good
stopped_refuses : {A B : Type 0} (early n q : ℕ) (r : Reading A) {y : B} → stopped early n q r ≡ good y → ⊥
stopped_refuses early n q (good x) h = refused_not_good h
stopped_refuses early n q (refused m p) {y} h = go (eqb m early) h
  where
    go : (b : Bool) → pick b (refused n q) (refused m p) ≡ good y → ⊥
    go true h = refused_not_good h
    go false h = refused_not_good h

-- so what is read of records is read of a file that they fit
pub fit_good : {A B : Type 0} (fit : Bool) (r : Reading A) (early n q : ℕ) (s : Reading B) {y : A} → pick fit r (stopped early n q s) ≡ good y → (fit ≡ true) × (r ≡ good y)
fit_good true r early n q s h = (refl, h)
fit_good false r early n q s h = absurd (stopped_refuses early n q s h)

-- the records' claim, as it is spelled, is judged by its records
pub formed_spelled : (f : Form) (es : Table) (goals : List (List ℕ))
    → formed (spelled_claim f es goals) ≡ firstly (judge_table plainly es) (good (record { form = f; entries = es; goals = goals }))
formed_spelled f es goals =
    ap (λ (v : Verdict). firstly v (good (claims.claim_of (spelled_claim f es goals)))) (spelled_judged es)
    ∙ ap (λ (c : Claim). firstly (judge_table plainly es) (good c)) (claim_spelled f es goals)

-- the records hold a claim: what stands in the slices once it was decoded there
pub record ClaimGiven (c : ClaimRecords) (k : Claim) : Type 0 where
  pub form : c.form ≡ form_number k.form
  pub count : c.count ≡ length k.entries
  pub entries : take c.count c.entries ≡ k.entries
  pub counts : c.counts ≡ lengths k.goals
  pub members : c.members ≡ joined k.goals

-- what holds of records whose file passes 10 to 14, 72, 20, 71 and 21 to 23
pub record ClaimWritable (f : Form) (c : ClaimRecords) : Type 0 where
  pub fit : goals_fit f c.counts c.members ≡ true
  pub goals : GoalCount f (length c.counts)
  pub back : read_formed_lem (claim_file f c) ≡ good (claim_of f c)
  pub given : c.form ≡ form_number f → ClaimGiven c (claim_of f c)
  pub near : length (claim_file f c) ≤ longest_claim f

module _ (f : Form) (c : ClaimRecords) (long : short_claim c ≡ false) where
  abbrev es : Table
  es = take c.count c.entries

  abbrev goals : List (List ℕ)
  goals = split c.counts c.members

pub claim_read : (f : Form) (c : ClaimRecords) → ClaimWritable f c → claim_reading f c ≡ good (claim_of f c)
unfolding claim_reading
claim_read f c w = rw w.fit w.back

-- a field of a file holds what its kind or rule lets it
pub fit_held : (has : Bool) (x : ℕ) → FitField has x → may_hold_lem has x ≡ true
fit_held true x h = refl
fit_held false x h = eq-eqb x 0 h

pub clipped_same : (n : ℕ) → n ≤ 65535 → clipped n ≡ n
clipped_same n h = ap (λ (b : Bool). choose b n 65535) (le-leb n 65535 h)

-- a form that is named
pub form_named : (f : Form) {n : ℕ} (g : Form → Reading (List ℕ)) → n ≡ form_number f → if_form n g ≡ g f
form_named clm1 g e = rw e refl
form_named clm2 g e = rw e refl

-- a file that is written, in a form
pub record ClaimLaid (f : Form) (c : ClaimRecords) (room : ℕ) (file : List ℕ) : Type 0 where
  pub long : short_claim c ≡ false
  pub is : file ≡ claim_file f c
  pub writable : ClaimWritable f c
  pub fits : length file ≤ room

pub room_good : (room : ℕ) (file : List ℕ) {l : List ℕ} → if_room room file ≡ good l → (length file ≤ room) × (file ≡ l)
room_good room file {l} h = go (ltb room (length file)) refl h
  where
    go : (b : Bool) → ltb room (length file) ≡ b → pick b (refused 70 0) (good file) ≡ good l → (length file ≤ room) × (file ≡ l)
    go true e k = absurd (refused_not_good k)
    go false e k = (ltb-false room (length file) e, good_same k)

pub good_room : (room : ℕ) (file : List ℕ) → length file ≤ room → if_room room file ≡ good file
good_room room file h = rw (le-ltb room (length file) h) refl

pub long_good : (b : Bool) (r : Reading (List ℕ)) {l : List ℕ} → if_long b r ≡ good l → (b ≡ false) × (r ≡ good l)
long_good true r h = absurd (refused_not_good h)
long_good false r h = (refl, h)

module _ (c : ClaimRecords) (room : ℕ) where
  abbrev rest : Form → Reading (List ℕ)
  rest f = and_then (claim_reading f c) (λ _. if_room room (claim_file f c))

  module _ (f : Form) (named : c.form ≡ form_number f) where
    module _ (long : short_claim c ≡ false) where
      pub claim_lays : ClaimWritable f c → length (claim_file f c) ≤ room → writing_claim c room ≡ good (claim_file f c)
      unfolding writing_claim
      claim_lays w fits = rw (long, form_named f rest named, w.fit, w.back) (good_room room (claim_file f c) fits)

-- what is written of a claim's records reads back to them, and the records of a claim that passes are written as its bytes
use Rattle.std.specs.Prelude.{◌≡◌, List, ◌++◌, Bool, true, false, ◌||◌, ℕ, suc, ◌≤◌, eqb, leb, length, take}
use Rattle.std.proofs.Math.Path.{refl, sym, ap}
use Rattle.std.proofs.Common.{subst, ◌∙◌, inl, inr, arith, le-ltb, eq-eqb, le-leb}
use Rattle.std.proofs.lemmas.List.{length-map}
use Rattle.verdict.specs.Lists.{Each, none, more}
use Rattle.verdict.specs.Tells.{tells_self, and_tells, leb_tells, eqb_tells}
use Rattle.formula.specs.Kind
use Rattle.formula.specs.Table.{Table}
use Rattle.formula.specs.Spelled.{Spelled, a_stands_lem, b_stands_lem, record_of, records_of, table_by, by_length, zeros}
use Rattle.formula.specs.Claim as claims
use Rattle.formula.specs.Claim.{Form, clm1, clm2, form_number, Claim, SpelledClaim}
use Rattle.formula.specs.Fields.{has_a_lem, has_b, is_modal_lem}
use Rattle.conditions.specs.Judge.{plainly, judge_table}
use Rattle.conditions.specs.Formed.{Unwritten}
use Rattle.conditions.proofs.JudgeExact.{judge_accepts}
use Rattle.encoding.specs.Encode.{Bytes, FitField, encode_all}
use Rattle.encoding.specs.ChainLaws.{each_as}
use Rattle.encoding.specs.File.{Reading, good}
use Rattle.encoding.specs.FileLaws.{good_same, refused_not_good}
use Rattle.claim_files.specs.ClaimFile.{encode_entry, encode_members, encode_goal_count, encode_goals, FitMap, FitEntry, GoalCount, ClaimFile}
use Rattle.claim_files.specs.ReadClaim.{read_claim_lem}
use Rattle.claim_files.proofs.ClaimExact.{good_claim}
use Rattle.reader.specs.Files.{and_then, formed, read_formed_lem}
use Rattle.writing.specs.RecordBytes.{entry_bytes, member_bytes, goal_bytes, claim_bytes, claim_head, split}
use Rattle.writing.specs.Goals.{total, may_have, goals_fit, joined, lengths, goals_fit_lem, split_joined, total_lengths, joined_split}
use Rattle.writing.proofs.Goals.{lengths_split}
use Rattle.writing.specs.Spelling.{spelled_claim, modal_fields, bits_stand, spelled_so}
use Rattle.writing.specs.Writing.{ClaimRecords, claim_file, short_claim, if_form, if_room, goal_place, claim_reading, writing_claim}
use Rattle.writing.specs.Ends.{End, next, stop, read_by}
use Rattle.writing.specs.FieldEnds.{may_hold_lem}
use Rattle.writing.specs.EntryEnds.{entry_fits_lem, entry_encoded}
use Rattle.writing.specs.GoalEnds.{lists_end}
use Rattle.writing.specs.ClaimEnds.{claim_end, longest_claim}
use Rattle.writing.proofs.ClaimEnds.{claim_ends, claim_passed}
use Rattle.writing.specs.ClaimTrips.{ClaimGiven, ClaimLaid, ClaimWritable, and_good, claim_lays, claim_of, clipped_same, first_good, fit_good, fit_held, form_named, formed_spelled, long_enough, long_good, room_good}

module _ (f : Form) (c : ClaimRecords) (long : short_claim c ≡ false) where
  abbrev es : Table
  es = take c.count c.entries

  abbrev goals : List (List ℕ)
  goals = split c.counts c.members

  -- what is read of a file that the records fit
  read_writable : goals_fit f c.counts c.members ≡ true → (k : Claim) → read_formed_lem (claim_file f c) ≡ good k → ClaimWritable f c
  unfolding read_formed_lem lists_end
  read_writable fit k h =
      let (x, was, table) = and_good (read_claim_lem (claim_file f c)) formed h in
      go (claim_end f c.count es c.counts c.members) refl x was table
    where
      ends : {e : End} → claim_end f c.count es c.counts c.members ≡ e → read_claim_lem (claim_file f c) ≡ read_by (spelled_claim f es goals) e
      ends e = claim_ends f c.count es (long_enough c long) c.counts c.members fit ∙ ap (read_by (spelled_claim f es goals)) e

      go : (e : End) → claim_end f c.count es c.counts c.members ≡ e → (x : SpelledClaim) → read_claim_lem (claim_file f c) ≡ good x → formed x ≡ good k → ClaimWritable f c
      go (stop n q) e x was table = absurd (refused_not_good (sym (ends e) ∙ was))
      go (next o) e x was table =
          let same : spelled_claim f es goals ≡ x = good_same (sym (ends e) ∙ was) in
          let p = claim_passed f c.count es c.counts c.members o e in
          let many = long_enough c long p.entries.1 in
          let (_, sum) = goals_fit_lem f c.counts c.members fit in
          let (_, is) = first_good (judge_table plainly es) (good (claim_of f c)) (sym (formed_spelled f es goals) ∙ ap formed same ∙ table) in
          record {
            fit = fit;
            goals = p.goals;
            back = h ∙ sym is;
            given = λ named. record {
              form = named;
              count = sym many;
              entries = refl;
              counts = sym (lengths_split c.counts c.members (omega arith));
              members = sym (joined_split c.counts c.members sum);
            };
            near = omega (arith, p.end, p.near many);
          }

  pub claim_writable : (k : Claim) → claim_reading f c ≡ good k → ClaimWritable f c
  unfolding claim_reading
  claim_writable k h =
      let head = read_claim_lem (claim_head f c.count es (length c.counts)) in
      let (fit, reads) = fit_good (goals_fit f c.counts c.members) (read_formed_lem (claim_file f c)) 11 12 (goal_place c) head h in
      read_writable fit k reads

-- an entry of a file holds values where the map of its kind lets it, or the action of a box or diamond
module _ (s : Spelled) (f : FitEntry s) where
  or_more : (q m z : Bool) → q || z ≡ true → (q || m) || z ≡ true
  or_more true m z h = refl
  or_more false true z h = refl
  or_more false false z h = h

  fields_fit : FitMap s.map s.kind → (may_hold_lem (has_a_lem s.kind) s.a ≡ true) × (may_hold_lem (has_b s.kind || is_modal_lem s.kind) s.b ≡ true)
  fields_fit (inl e) =
      let (p, q) = bits_stand (has_a_lem s.kind) (has_b s.kind) in
      let a : FitField (has_a_lem s.kind) s.a = subst (λ (b : Bool). FitField b s.a) (ap a_stands_lem e ∙ p) f.a_fits in
      let b : FitField (has_b s.kind) s.b = subst (λ (c : Bool). FitField c s.b) (ap b_stands_lem e ∙ q) f.b_fits in
      (fit_held (has_a_lem s.kind) s.a a, or_more (has_b s.kind) (is_modal_lem s.kind) (eqb s.b 0) (fit_held (has_b s.kind) s.b b))
  fields_fit (inr (low, high, _)) =
      let modal : is_modal_lem s.kind ≡ true = (and_tells (leb_tells Kind.DIAMOND s.kind) (leb_tells s.kind Kind.BOX)).holds (low, high) in
      let (p, q) = modal_fields s.kind modal in
      (rw p refl, rw (q, modal) refl)

  fit_entry : entry_fits_lem (record_of s) ≡ true
  fit_entry =
      (and_tells (tells_self (leb s.kind Kind.NAME)) (and_tells (tells_self (may_hold_lem (has_a_lem s.kind) s.a)) (tells_self (may_hold_lem (has_b s.kind || is_modal_lem s.kind) s.b)))
      ).holds (le-leb s.kind Kind.NAME f.known, fields_fit f.fits)

-- entries of a file that write no 0 out are written again as they were spelled
entries_again : {ss : List Spelled} → Each FitEntry ss → Unwritten (zeros ss) (records_of ss) → encode_all entry_bytes (records_of ss) ≡ encode_all encode_entry ss
unfolding encode_all table_by
entries_again none u = refl
entries_again (more {x = s} {l = ss} f fs) u =
    ap (λ (l : List ℕ). l ++ encode_all entry_bytes (records_of ss)) (entry_encoded (record_of s) (fit_entry s f) ∙ ap encode_entry (spelled_so s f (u 0 (omega arith))))
    ∙ ap (λ (l : List ℕ). encode_entry s ++ l) (entries_again fs (λ e h. u (suc e) (omega arith)))

-- goals that a file may hold are written as they are encoded
members_encoded : {goals : List (List ℕ)} → Each (λ (g : List ℕ). length g ≤ 24) goals → encode_all member_bytes goals ≡ encode_all encode_members goals
unfolding encode_all
members_encoded none = refl
members_encoded (more {x = g} few fs) = rw (clipped_same (length g) (omega arith), members_encoded fs) refl

pub goals_encoded : (f : Form) (goals : List (List ℕ)) → GoalCount f (length goals) → Each (λ (g : List ℕ). length g ≤ 24) goals → goal_bytes f goals ≡ encode_goals f goals
goals_encoded f goals many few =
    ap (λ (n : ℕ). encode_goal_count f n ++ encode_all member_bytes goals) (clipped_same (length goals) (in_two f many))
    ∙ ap (λ (l : List ℕ). encode_goal_count f (length goals) ++ l) (members_encoded few)
  where
    in_two : (f : Form) → GoalCount f (length goals) → length goals ≤ 65535
    in_two clm1 h = omega arith
    in_two clm2 h = omega (arith, h.1)

claim_again : (x : SpelledClaim) {bytes : List ℕ} → ClaimFile bytes x → Unwritten (zeros x.spelling) (records_of x.spelling)
    → claim_bytes x.form (length (records_of x.spelling)) (records_of x.spelling) x.goals ≡ bytes
claim_again x f u =
    let n : length x.spelling ≤ 65535 = omega (arith, f.fits.entries.count) in
    rw (
      by_length record_of x.spelling,
      clipped_same (length x.spelling) n,
      entries_again f.fits.entries.each u,
      goals_encoded x.form x.goals f.fits.goals.count (each_as (λ g h. h.count.1) f.fits.goals.each),
    ) (sym f.encoded)

-- the goals of a file fit as they are given
goals_again : (f : Form) (goals : List (List ℕ)) → GoalCount f (length goals) → goals_fit f (lengths goals) (joined goals) ≡ true
goals_again f goals many =
    (and_tells (tells_self (may_have f (length (lengths goals)))) (eqb_tells (total (lengths goals)) (length (joined goals)))
    ).holds (ap (may_have f) (length-map goals length) ∙ may f many, total_lengths goals)
  where
    may : (f : Form) → GoalCount f (length goals) → may_have f (length goals) ≡ true
    may clm1 h = eq-eqb (length goals) 1 h
    may clm2 h = refl

module _ (c : ClaimRecords) (k : Claim) (given : ClaimGiven c k) {bytes : List ℕ} (bs : Bytes bytes) (reads : read_formed_lem bytes ≡ good k) where
  -- the records of a claim that passes make its bytes, and fit
  pub claim_bytes_again : (claim_file k.form c ≡ bytes) × (goals_fit k.form c.counts c.members ≡ true)
  unfolding read_formed_lem
  claim_bytes_again =
      let (x, was, table) = and_good (read_claim_lem bytes) formed reads in
      let z = zeros x.spelling in
      let t = records_of x.spelling in
      let (ok, same) = first_good (judge_table z t) (good (claims.claim_of x)) table in
      let is : claims.claim_of x ≡ k = good_same same in
      let file = good_claim bs was in (
        rw (given.entries, given.count, given.counts, given.members, split_joined k.goals, ← is) (claim_again x file ((judge_accepts z t).0 ok).1),
        rw (given.counts, given.members, ← is) (goals_again x.form x.goals file.fits.goals.count),
      )

module _ (c : ClaimRecords) (room : ℕ) where
  abbrev rest : Form → Reading (List ℕ)
  rest f = and_then (claim_reading f c) (λ _. if_room room (claim_file f c))

  module _ (f : Form) (named : c.form ≡ form_number f) where
    pub claim_laid : (file : List ℕ) → writing_claim c room ≡ good file → ClaimLaid f c room file
    unfolding writing_claim
    claim_laid file h =
        let (long, formed) = long_good (short_claim c) (if_form c.form rest) h in
        let (k, was, fits) = and_good (claim_reading f c) (λ _. if_room room (claim_file f c)) (sym (form_named f rest named) ∙ formed) in
        let (less, is) = room_good room (claim_file f c) fits in
        record { long = long; is = sym is; writable = claim_writable f c long k was; fits = rw (← is) less }

    module _ (long : short_claim c ≡ false) where
      -- long enough a slice never earns 70
      pub claim_roomy : (k : Claim) → claim_reading f c ≡ good k → longest_claim f ≤ room → writing_claim c room ≡ good (claim_file f c)
      claim_roomy k h far = let w = claim_writable f c long k h in claim_lays c room f named long w (omega (arith, w.near))

  -- the records of a claim that passes are written as its bytes
  pub claim_writes_again : (k : Claim) {claim : List ℕ} → Bytes claim → read_formed_lem claim ≡ good k → ClaimGiven c k → 256 ≤ length c.entries → length claim ≤ room
      → writing_claim c room ≡ good claim
  claim_writes_again k {claim} bytes reads given long fits =
      let (same, fit) = claim_bytes_again c k given bytes reads in
      let enough : short_claim c ≡ false = le-ltb (length c.entries) 256 long in
      let w = read_writable k.form c enough fit k (ap read_formed_lem same ∙ reads) in
      claim_lays c room k.form given.form enough w (omega (arith, ap length same)) ∙ ap good same

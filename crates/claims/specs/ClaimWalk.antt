-- a whole claim file, as the program walks over it: what its answer tells, and what it leaves in each array
use Rattle.std.specs.Prelude.{◌≡◌, List, Bool, ℕ, ◌<◌, ◌≤◌, length, drop, Ok, Err, Result}
use Rattle.std.proofs.Math.Path.{refl, sym, ap}
use Rattle.std.proofs.Common.{◌∙◌, arith, length-append}
use Rattle.std.proofs.Math.Bool.{true, false}
use Rattle.verdict.specs.Lists.{written}
use Rattle.verdict.specs.declared.Refusal.{Refusal}
use Rattle.verdict.specs.Tests.{choose}
use Rattle.formula.specs.Table.{Entry, Table}
use Rattle.formula.specs.Claim.{Form, clm1, clm2, form_number, fewest, Claim, SpelledClaim, marked_claim}
use Rattle.formula.specs.NamedForm.{named_form, names}
use Rattle.formula.specs.Spelled.{Spelled, marked, marked_of, by_length}
use Rattle.formula.specs.Plain.{table_of}
use Rattle.formula.specs.Held.{goals_of, ClaimHeld}
use Rattle.formula.specs.Columns.{column, column_length, kind_column, table_of_columns}
use Rattle.encoding.specs.Parse.{Got, fault, got, bind}
use Rattle.encoding.specs.File.{Reading, refused, good, ending}
use Rattle.encoding.specs.Outcome.{RefusedWith}
use Rattle.encoding.specs.Opening.{opens, opens_tells, begins_tells}
use Rattle.claim_files.specs.ClaimFile.{claim_opening}
use Rattle.claim_files.specs.ReadClaim.{early, goals, claim_of, body, read_form, form_of, read_claim_lem}
use Rattle.claim_files.specs.ClaimExact.{form_opens}
use Rattle.claim_files.specs.ClaimFaults as files
use Rattle.encoding.specs.Walk.{file_opens, bytes_follow, none_follow}
use Rattle.file_parts.specs.Parts.{ListRead}
use Rattle.claim_entries.specs.ClaimEntries.{EntryArrays, EntriesStored, entries_at, form_entries}
use Rattle.claim_members.specs.GoalColumns.{GoalsStored}
use Rattle.claim_members.specs.ClaimGoals.{goals_at, goals_same}
use Rattle.claims.specs.declared.ClaimCounts.{ClaimCounts}

-- the arrays that a claim is decoded into
pub record ClaimArrays (ks xs ys gs ms : List ℕ) : Type 0 where
  pub entries : EntryArrays ks xs ys
  pub starts : length gs ≡ 17
  pub members : length ms ≡ 384

-- a claim as the columns hold it: a 0 that is written out is marked there
abbrev pub held_reading : Reading SpelledClaim → Reading Claim
held_reading (refused n q) = refused n q
held_reading (good c) = good (marked_claim c)

-- the file is a claim of the form of this number, of n entries and k goals, and is held
pub record ClaimGot (r : Reading Claim) (ks xs ys gs ms : List ℕ) (f n k : ℕ) : Type 0 where
  pub claim : Claim
  pub was : r ≡ good claim
  pub form : form_number claim.form ≡ f
  pub held : ClaimHeld claim ks xs ys n gs ms k

-- what the walk answers: the form's number and the counts, or a refusal
abbrev pub ClaimRead : Type 0
ClaimRead = Result ClaimCounts (Refusal ℕ)

-- the answer of one walk; a refused file may leave a part of its decoding
abbrev pub ClaimTells : Reading Claim → List ℕ → List ℕ → List ℕ → List ℕ → List ℕ → ClaimRead → Type 0
ClaimTells r ks xs ys gs ms (Ok c) = ClaimGot r ks xs ys gs ms c.form c.entries c.goals
ClaimTells r ks xs ys gs ms (Err e) = RefusedWith r e.number e.place

-- what holds of the answer in an arm that knows which it is
module _ {r : Reading Claim} (ks xs ys gs ms : List ℕ) {w : ClaimRead} (t : ClaimTells r ks xs ys gs ms w) where
  pub claim_as_read : {c : ClaimCounts} → w ≡ Ok c → ClaimGot r ks xs ys gs ms c.form c.entries c.goals
  claim_as_read e = rw e at t

  pub claim_as_refused : {e : Refusal ℕ} → w ≡ Err e → RefusedWith r e.number e.place
  claim_as_refused e = rw e at t

pub claim_refused : {r : Reading SpelledClaim} {n q : ℕ} → (n < 65536) × (q < 65536) → r ≡ refused n q → RefusedWith (held_reading r) n q
claim_refused l h = record { was = ap held_reading h; small = l }

-- a column that was written is there whole
column_there : (f : Entry → ℕ) (t : Table) (old : List ℕ) → length t ≤ length (written (column f t) old)
column_there f t old = omega (arith, length-append (column f t) (drop (length (column f t)) old), column_length f t)

module _ {ks₀ ks xs₀ xs ys₀ ys gs ms : List ℕ} {es : Table} {l : List (List ℕ)} (x : EntriesStored ks₀ ks xs₀ xs ys₀ ys es) (y : GoalsStored gs ms l) where
  stored_held : (f : Form) {n k : ℕ} → length es ≡ n → n ≤ 256 → length l ≡ k → ClaimHeld (record { form = f; entries = es; goals = l }) ks xs ys n gs ms k
  stored_held f {n} {k} i a j = record {
    same = ap (λ (t : Table). record { form = f; entries = t; goals = goals_of gs ms k }) table ∙ ap (λ (g : List (List ℕ)). record { form = f; entries = es; goals = g }) (rw (← j) y.same);
    entries = a;
    kinds = rw (← i, x.kinds) (column_there (λ r. r.kind) es ks₀);
    a_fields = rw (← i, x.a_fields) (column_there (λ r. r.a) es xs₀);
    b_fields = rw (← i, x.b_fields) (column_there (λ r. r.b) es ys₀);
    goals = rw (← j) y.held;
  }
    where
      table : table_of ks xs ys n ≡ es
      table = rw (← i, x.kinds, x.a_fields, x.b_fields) (table_of_columns es ks₀ xs₀ ys₀)

-- the number of the form by whose letters the bytes open, and 0 where they open by none
unfoldable pub opening_form_lem : List ℕ → ℕ
unfolding opens
opening_form_lem s = choose (opens (claim_opening clm1) s) (form_number clm1) (choose (opens (claim_opening clm2) s) (form_number clm2) 0)

-- for the program's returns
module _ (s : List ℕ) {one : Bool} (first : one ≡ opens (claim_opening clm1) s) where
  pub opens_one : one ≡ true → form_number clm1 ≡ opening_form_lem s
  unfolding opening_form_lem
  opens_one h = rw (← first, h) refl

  module _ {several : Bool} (h : one ≡ false) (second : several ≡ opens (claim_opening clm2) s) where
    pub opens_several : several ≡ true → form_number clm2 ≡ opening_form_lem s
    unfolding opening_form_lem
    opens_several k = rw (← first, h, ← second, k) refl

    pub opens_none : several ≡ false → 0 ≡ opening_form_lem s
    unfolding opening_form_lem
    opens_none k = rw (← first, h, ← second, k) refl

-- it is the one that the file is read in
pub record Opened (s : List ℕ) (n : ℕ) : Type 0 where
  pub number : form_number (form_of s) ≡ n
  pub letters : opens (claim_opening (form_of s)) s ≡ true

module _ (s : List ℕ) {n : ℕ} (test : n ≡ opening_form_lem s) where
  pub claim_closed : n ≡ 0 → read_claim_lem s ≡ refused 10 0
  unfolding opening_form_lem
  claim_closed h = go (opens (claim_opening clm1) s) (opens (claim_opening clm2) s) refl refl (sym h ∙ test)
    where
      go : (b c : Bool) → opens (claim_opening clm1) s ≡ b → opens (claim_opening clm2) s ≡ c → 0 ≡ choose b 1 (choose c 2 0) → read_claim_lem s ≡ refused 10 0
      go true c i j k = absurd (omega arith)
      go false true i j k = absurd (omega arith)
      go false false i j k = files.claim_closed s i j

  pub claim_opened : (n ≡ 0 → ⊥) → Opened s n
  unfolding opening_form_lem
  claim_opened h = go (opens (claim_opening clm1) s) (opens (claim_opening clm2) s) refl refl test
    where
      by : (f : Form) → opens (claim_opening f) s ≡ true → n ≡ form_number f → Opened s n
      by f e k = let i = form_opens f s ((opens_tells (claim_opening f) s).says e) in record { number = ap form_number i ∙ sym k; letters = rw i e }

      go : (b c : Bool) → opens (claim_opening clm1) s ≡ b → opens (claim_opening clm2) s ≡ c → n ≡ choose b 1 (choose c 2 0) → Opened s n
      go true c i j k = by clm1 i k
      go false true i j k = by clm2 j k
      go false false i j k = absurd (h k)

opening_length : (f : Form) → length (claim_opening f) ≡ 4
opening_length clm1 = refl
opening_length clm2 = refl

module _ (s : List ℕ) {f : ℕ} (o : Opened s f) where
  pub claim_long : 4 ≤ length s
  claim_long = omega (arith, ((begins_tells (claim_opening (form_of s)) s).says o.letters).long, opening_length (form_of s))

module _ (s : List ℕ) {f : ℕ} (o : Opened s f) {least : ℕ} (as_form : least ≡ fewest (named_form f)) where
  same_form : named_form f ≡ form_of s
  same_form = names (form_of s) (sym o.number)

  -- the goals are read in sight of the entries
  abbrev after_entries : Got (List Spelled) → Reading SpelledClaim
  after_entries g = ending early (bind (bind g (λ es r z. bind (goals (form_of s) es r z) (λ gs t w. got (es, gs) t w))) (λ c t w. got (claim_of (form_of s) c) t w))

  abbrev after_goals : List Spelled → Got (List (List ℕ)) → Reading SpelledClaim
  after_goals es g = ending early (bind (bind g (λ gs t w. got (es, gs) t w)) (λ c t w. got (claim_of (form_of s) c) t w))

  claim_entries_lem : read_claim_lem s ≡ after_entries (entries_at least s 4)
  unfolding read_claim_lem read_form body
  claim_entries_lem =
      file_opens (claim_opening (form_of s)) 10 early (body (form_of s)) s o.letters
      ∙ ap (λ (n : ℕ). ending early (body (form_of s) (drop n s) n)) (opening_length (form_of s))
      ∙ ap after_entries (form_entries (form_of s) s 4)
      ∙ ap (λ (k : ℕ). after_entries (entries_at k s 4)) (sym (as_form ∙ ap fewest same_form))

  pub claim_no_entries : {n q : ℕ} → entries_at least s 4 ≡ fault n q → read_claim_lem s ≡ refused n q
  claim_no_entries e = claim_entries_lem ∙ ap after_entries e

  module _ {ks₀ ks xs₀ xs ys₀ ys : List ℕ} {n z : ℕ} (x : ListRead s 1542 256 (entries_at least s 4) (λ es. EntriesStored ks₀ ks xs₀ xs ys₀ ys (marked_of es)) n z) where
    claim_goals : read_claim_lem s ≡ after_goals x.list (goals_at (named_form f) ks n s z)
    claim_goals =
        claim_entries_lem ∙ ap after_entries x.reached.found ∙ ap (after_goals x.list) (goals_same (form_of s) x.list ks₀ s z)
        ∙ ap (λ (k : ℕ). after_goals x.list (goals_at (form_of s) (written (kind_column (marked_of x.list)) ks₀) k s z)) x.many
        ∙ ap (λ (u : List ℕ). after_goals x.list (goals_at (form_of s) u n s z)) (sym x.stored.kinds)
        ∙ ap (λ (g : Form). after_goals x.list (goals_at g ks n s z)) (sym same_form)

    pub claim_no_goals : {k q : ℕ} → goals_at (named_form f) ks n s z ≡ fault k q → read_claim_lem s ≡ refused k q
    claim_no_goals e = claim_goals ∙ ap (after_goals x.list) e

    module _ {gs ms : List ℕ} {k w : ℕ} (y : ListRead s 2344 16 (goals_at (named_form f) ks n s z) (GoalsStored gs ms) k w) where
      pub claim_follows : w < length s → read_claim_lem s ≡ refused early w
      claim_follows h = claim_goals ∙ ap (after_goals x.list) y.reached.found ∙ bytes_follow early s (claim_of (form_of s) (x.list, y.list)) w h

      claim_whole : length s ≤ w → read_claim_lem s ≡ good (claim_of (form_of s) (x.list, y.list))
      claim_whole h = claim_goals ∙ ap (after_goals x.list) y.reached.found ∙ none_follow early s (claim_of (form_of s) (x.list, y.list)) w h

      pub claim_got : length s ≤ w → ClaimGot (held_reading (read_claim_lem s)) ks xs ys gs ms f n k
      claim_got h = record {
        claim = marked_claim (claim_of (form_of s) (x.list, y.list));
        was = ap held_reading (claim_whole h);
        form = o.number;
        held = stored_held x.stored y.stored (form_of s) (by_length marked x.list ∙ x.many) x.few y.many;
      }

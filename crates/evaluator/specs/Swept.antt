-- the sweep over the entries, from the highest down, and what it writes
use Rattle.std.specs.Prelude.{◌≡◌, List, ◌++◌, true, ℕ, ◌+◌, ◌*◌, ◌^◌, ◌<◌, ◌≤◌, length, get_or, take, drop, replicate}
use Rattle.std.proofs.Common.{sym, ap, ◌∙◌, arith, ext_get_or}
use Rattle.std.proofs.lemmas.Bool.{false≢true}
use Rattle.std.proofs.Math.Decide.{ℕ_discrete}
use Rattle.std.proofs.lemmas.List.{length-replicate}
use Rattle.verdict.specs.Lists.{written}
use Rattle.formula.specs.Table.{Table}
use Rattle.formula.specs.Plain.{table_of, table_of_length}
use Rattle.conditions.specs.WellFormedLaws.{free_in}
use Rattle.meaning.specs.States.{Model}
use Rattle.meaning.specs.Meaning.{own}
use Rattle.bits.specs.Bits.{bit, no_bit}
use Rattle.states.specs.BitLaws.{bit_within}
use Rattle.states.specs.Words.{words}
use Rattle.states.specs.WordLaws.{words_length, words_at}
use Rattle.states.specs.StateWords.{Inside}
use Rattle.states.proofs.StateWords.{by_bits}
use Rattle.states.specs.PlainModel.{plain_model, words_in}
use Rattle.states.specs.Rows.{row_model, RowWords}
use Rattle.states.proofs.Rows.{rows_inside, rows_words}
use Rattle.states.specs.Fill.{Filled}
use Rattle.bits.specs.WordSet.{in_set, zeros_at, none_in}
use Rattle.forming.specs.Claim.{table_from, Claim, Given, first_entries, claim_length}
use Rattle.dependencies.specs.Actions.{Modal, UsedActions, used_acts}
use Rattle.settling.specs.Evaluated.{Known, Standing, Evaluated}

-- the rows of each action of the claim, with no bit past the last state
abbrev pub Rowed : List ℕ → List ℕ → List ℕ → ℕ → Type 0
Rowed ks ys rows size = ((e : ℕ) → e < length ks → Modal (get_or ks e 0) → 64 * get_or ys e 0 + 64 ≤ length rows) × Inside size (length rows) rows

module _ (ks xs ys masks rows : List ℕ) (size : ℕ) where
  abbrev M : Model
  M = row_model masks rows size

  abbrev t : Table
  t = table_from ks xs ys

  -- the entries from p on are settled
  pub record Swept (p : ℕ) (ws ds : List ℕ) : Type 0 where
    pub standing : Standing ks xs ys masks rows size ws ds
    pub settled : (e : ℕ) → p ≤ e → e < length ks → in_set ds e ≡ true

  pub swept_known : (p : ℕ) (ws ds : List ℕ) → Swept p ws ds → (e : ℕ) → p ≡ e + 1 → Known ks xs ys ds e
  swept_known p ws ds S e q y f =
      let wf = S.standing.ready.claim.formed.well in
      S.settled y (let m = wf.free_above e y f in omega (arith, m, q)) (let m = free_in t wf f in omega (arith, m, claim_length ks xs ys))

  pub swept_next : (p : ℕ) (ws ds vs es : List ℕ) → Swept p ws ds → (e : ℕ) → p ≡ e + 1 → Evaluated ks xs ys masks rows size e ds vs es → Swept e vs es
  swept_next p ws ds vs es S e q E = record { standing = E.standing; settled = λ c h l. go c h l (ℕ_discrete c e) }
    where
      go : (c : ℕ) → e ≤ c → c < length ks → Dec (c ≡ e) → in_set es c ≡ true
      go c h l (yes z) = ap (in_set es) z ∙ E.settled
      go c h l (no n) = E.more c (S.settled c (omega (arith, q, n)) l)

  pub swept_none : (ws ds : List ℕ) → Standing ks xs ys masks rows size ws ds → Swept (length ks) ws ds
  swept_none ws ds S = record { standing = S; settled = λ e h l. absurd (omega arith) }

  -- at first no entry is settled
  pub standing_first : Claim ks xs ys → size ≤ 64 → Rowed ks ys rows size → Standing ks xs ys masks rows size (replicate 256 0) (replicate 4 0)
  standing_first C h (there, inside) =
      record {
        ready = record {
          claim = C;
          states = h;
          rows_there = λ e l x y. there e l (x, y);
          rows_inside = inside;
          words_there = length-replicate {A = ℕ} 256 0;
          words_inside = λ e s k m. ap (λ (w : ℕ). bit w s) (zeros_at 256 e) ∙ no_bit s;
        };
        done_there = length-replicate {A = ℕ} 4 0;
        good = λ e d. absurd (false≢true (sym (none_in 4 e) ∙ d));
      }

  -- in the end every entry is
  pub every_word : (ws ds : List ℕ) → Swept 0 ws ds → (zs vs : List ℕ) → length zs ≡ length ks → Filled (λ e. get_or ws e 0) zs (length zs) vs → vs ≡ words M t
  every_word ws ds S zs vs q F =
      let n = claim_length ks xs ys in
      let m : length vs ≡ length ks = F.long ∙ q in
      ext_get_or 0 vs (words M t) (m ∙ sym (words_length M t ∙ n))
      (λ e h. let l : e < length ks = omega (arith, m) in
      F.below e (omega (arith, q))
      ∙ by_bits size (own M t e) (get_or ws e 0) (S.standing.good e (S.settled e (omega arith) l)) (λ s k. S.standing.ready.words_inside e s l k)
      ∙ sym (words_at M t e (omega (arith, n))))

-- the rows of the actions in a map of n bits fit into 64 * n words
pub row_room : (n used : ℕ) → used < 2 ^ n → (a : ℕ) → bit used a ≡ true → 64 * a + 64 ≤ 64 * n
row_room n used h a k = omega (arith, bit_within n used a h k)

-- what was made of the marks for the actions of the claim is such rows, and gives the words of the marks
module _ {ks xs ys : List ℕ} (C : Claim ks xs ys) {used : ℕ} (U : UsedActions ks ys (length ks) used) {size : ℕ} (few : size ≤ 64) (k : ℕ)
    {marks : List (List ℕ)} {rows : List ℕ} (R : RowWords marks used size (replicate k 0) 16 rows) where
  pub made_rows : ((a : ℕ) → bit used a ≡ true → 64 * a + 64 ≤ k) → Rowed ks ys rows size
  made_rows room = (λ e l m. omega (arith, room (get_or ys e 0) (U.there e l m), R.long, length-replicate {A = ℕ} k 0), rows_inside k few R (length rows))

  pub made_words : (masks : List ℕ) → words (row_model masks rows size) (table_from ks xs ys) ≡ words_in masks marks size (table_from ks xs ys)
  made_words masks = rows_words k few R masks (table_from ks xs ys) (used_acts C U) C.formed.well

-- the words of the first n entries, and what was there before unchanged beyond them
pub first_written : {ks xs ys : List ℕ} {n : ℕ} {ws : List ℕ} → Given ks xs ys n ws → (masks : List ℕ) (marks : List (List ℕ)) (size : ℕ) (vs : List ℕ)
    → vs ≡ words_in masks marks size (table_from (take n ks) (take n xs) (take n ys)) → vs ++ drop n ws ≡ written (words_in masks marks size (table_of ks xs ys n)) ws
first_written {ks} {xs} {ys} {n} {ws} G masks marks size vs q =
    let e : vs ≡ words_in masks marks size (table_of ks xs ys n) = q ∙ ap (words_in masks marks size) (first_entries G) in
    let l : length vs ≡ n = ap length e ∙ words_length (plain_model masks marks size) (table_of ks xs ys n) ∙ table_of_length ks xs ys n in
    ap (λ (k : ℕ). vs ++ drop k ws) (sym l) ∙ ap (λ (z : List ℕ). z ++ drop (length z) ws) e

-- an evaluation as the program runs it over plain tables: the lengths, the claim, the model, the words
use Rattle.std.specs.Prelude.{◌≡◌, List, Bool, true, false, ◌||◌, ℕ, ◌<◌, ◌≤◌, length, get_or, Ok}
use Rattle.std.proofs.Math.Path.{refl, ap}
use Rattle.std.proofs.Common.{sym, subst, ◌∙◌, arith, lt-ltb, le-ltb}
use Rattle.std.proofs.Math.Bool.{or-true}
use Rattle.std.proofs.Math.Decide.{dec_lt}
use Rattle.std.proofs.Math.Dec.{ltb}
use Rattle.std.proofs.Math.ListN.{get_or-eq_default}
use Rattle.verdict.specs.Verdict as verdicts
use Rattle.verdict.specs.Verdict.{Within}
use Rattle.verdict.specs.Lists.{written, values_from, values_from_length, values_from_at}
use Rattle.encoding.specs.Encode.{Bytes}
use Rattle.encoding.specs.File.{Reading, refused, good}
use Rattle.encoding.specs.Outcome.{verdict_of, RefusedWith}
use Rattle.formula.specs.Table.{Table, entry}
use Rattle.formula.specs.Claim.{Claim}
use Rattle.formula.specs.Plain.{table_of, table_of_kind}
use Rattle.conditions.specs.Formed.{Formed}
use Rattle.meaning.specs.States.{Model}
use Rattle.claims.specs.ClaimWalk.{ClaimGot}
use Rattle.model_files.specs.ModelFile.{State, FitModel}
use Rattle.model_files.specs.Described.{blank, state, model_of, successor_table}
use Rattle.model_files.specs.ReadModel.{read_model}
use Rattle.model_files.proofs.ModelExact.{good_model}
use Rattle.model_files.specs.Decoded.{GoodModel, states_of, good_states, mask_table}
use Rattle.states.specs.Words.{words}
use Rattle.states.specs.PlainModel.{plain_model, words_in, plain_described}
use Rattle.forming.specs.Claim.{Given}
use Rattle.reader.specs.Files.{and_then, read_formed_lem, beside_claim}
use Rattle.reader.specs.FilesLaws.{refused_reading}
use Rattle.reader.specs.FormedLaws.{kind_known}
use Rattle.reader.specs.FilesExact.{formed_exactly}
use Rattle.demands.specs.Slices.{LentWords}
use Rattle.demands.specs.Evaluate.{Evaluated, unevaluated, in_model, evaluated, if_long, evaluating}
use Rattle.evaluation.specs.EvaluateFiles.{Evaluation, Right, EvaluatedFiles, Staged, refusal, Refuses, after_model_lem}

-- what is right by y is right by x that says the same
right_same : {ks xs ys : List ℕ} {x y : Evaluated} {es : Table} {r : Evaluation} {ws : List ℕ} → x ≡ y → Right ks xs ys y es r ws → Right ks xs ys x es r ws
right_same h g = record {
  answer = g.answer ∙ ap (λ (v : Evaluated). v.answer) (sym h);
  within = subst (λ (v : Evaluated). Within 4294967296 v.answer) (sym h) g.within;
  words = g.words ∙ ap (λ (v : Evaluated). v.lent.words) (sym h);
  entries = ap (λ (v : Evaluated). v.lent.entries) h ∙ g.entries;
}

pub staged_same : {x y : LentWords → Evaluated} {ws₀ ks xs ys ws : List ℕ} {r : Evaluation} → ((l : LentWords) → x l ≡ y l) → Staged y ws₀ r ks xs ys ws → Staged x ws₀ r ks xs ys ws
staged_same h s = record { few = s.few; right = λ es. right_same (h _) (s.right es) }

-- a refusal writes nothing
right_refused : (ks xs ys : List ℕ) (es : Table) (ws : List ℕ) (n q : ℕ) → q < 4294967296
    → Right ks xs ys (unevaluated n q (record { entries = es; words = ws })) es (refusal n q) ws
unfolding table_of values_from
right_refused ks xs ys es ws n q h = record { answer = refl; within = h; words = refl; entries = refl }

pub staged_refused : {ks xs ys : List ℕ} (x : LentWords → Evaluated) (ws : List ℕ) {n q : ℕ} {r : Evaluation} → ((l : LentWords) → x l ≡ unevaluated n q l) → Refuses n q r → Staged x ws r ks xs ys ws
staged_refused {ks} {xs} {ys} x ws {n} {q} h (e, w) = rw e (record {
  few = omega arith;
  right = λ es. right_same (h _) (right_refused ks xs ys es ws n q w);
})

-- the letter masks of a model that was read
mask_at : {m : List State} → FitModel m → (s : ℕ) → get_or (mask_table m) s 0 ≡ (state m s).mask
unfolding mask_table
mask_at {m} f s = go (dec_lt s 64)
  where
    go : Dec (s < 64) → get_or (mask_table m) s 0 ≡ (state m s).mask
    go (yes h) = values_from_at (λ i. (state m i).mask) 0 0 64 s h ∙ ap (λ (i : ℕ). (state m i).mask) (omega arith)
    go (no h) =
        let past : length (mask_table m) ≤ s = omega (arith, values_from_length (λ i. (state m i).mask) 0 64) in
        let none : length m ≤ s = omega (arith, f.count) in
        get_or-eq_default (mask_table m) 0 past ∙ sym (ap (λ (x : State). x.mask) (get_or-eq_default m blank none))

-- the model by bytes, and each entry's word in it
module _ (ks xs ys : List ℕ) (k : ℕ) (s : List ℕ) where
  abbrev t : Table
  t = table_of ks xs ys k

  pub model_refused : {n q : ℕ} → verdict_of (read_model s) ≡ verdicts.refused n q → (l : LentWords) → after_model_lem t (read_model s) l ≡ unevaluated n q l
  model_refused h l = ap (λ (r : Reading (List State)). after_model_lem t r l) (refused_reading (read_model s) h)

  module _ (bs : Bytes s) (g : GoodModel s) where
    described : plain_model (mask_table (states_of s)) (successor_table (states_of s)) (length (states_of s)) ≡ model_of (states_of s)
    described = let f = (good_model bs (good_states s g)).fits in plain_described f (mask_table (states_of s)) (mask_at f)

    -- over the letter masks, the successor table and the state count as they were decoded
    pub model_evaluated : {masks : List ℕ} {marks : List (List ℕ)} {n : ℕ} {ws₀ ws : List ℕ}
        → masks ≡ mask_table (states_of s) → marks ≡ successor_table (states_of s) → n ≡ length (states_of s) → k ≤ 256 → ws ≡ written (words_in masks marks n t) ws₀
        → Staged (after_model_lem t (read_model s)) ws₀ (Ok k) ks xs ys ws
    model_evaluated {ws₀ = ws₀} by_masks by_marks many few e = record {
      few = few;
      right = λ es. right_same (ap (λ (r : Reading (List State)). after_model_lem t r (record { entries = es; words = ws₀ })) (good_states s g)) (record {
        answer = refl;
        within = tt;
        words = e ∙ ap (λ (M : Model). written (words M t) ws₀) (rw (by_masks, by_marks, many) described);
        entries = refl;
      });
    }

-- the claim, by bytes and by its table
module _ (claim model : List ℕ) where
  pub claim_refused : {n q : ℕ} → RefusedWith (read_formed_lem claim) n q → (l : LentWords) → evaluated (in_model claim model) l ≡ unevaluated n q l
  unfolding in_model
  claim_refused u l = rw u.was refl

  module _ {ks xs ys gs ms : List ℕ} {f n k : ℕ} (g : ClaimGot (read_formed_lem claim) ks xs ys gs ms f n k) where
    -- an entry table that stands in the columns
    table_is : g.claim.entries ≡ table_of ks xs ys n
    table_is = ap (λ (c : Claim). c.entries) (sym g.held.same)

    pub claim_goes_on : (l : LentWords) → evaluated (in_model claim model) l ≡ after_model_lem (table_of ks xs ys n) (read_model model) l
    unfolding in_model
    claim_goes_on l =
        ap (λ (r : Reading Claim). evaluated (and_then r (beside_claim (λ c. read_model model))) l) g.was
        ∙ go (read_model model) ∙ ap (λ (t : Table). after_model_lem t (read_model model) l) table_is
      where
        go : (r : Reading (List State)) → evaluated (beside_claim (λ c. r) g.claim) l ≡ after_model_lem g.claim.entries r l
        go (refused m q) = refl
        go (good m) = refl

    pub claim_given : Bytes claim → {ws : List ℕ} → 256 ≤ length ws → Given ks xs ys n ws
    claim_given bc room =
        let formed = (formed_exactly claim bc).given g.claim g.was in
        record {
          kinds_there = g.held.kinds;
          as_there = g.held.a_fields;
          bs_there = g.held.b_fields;
          words_there = omega (arith, g.held.entries);
          few = g.held.entries;
          known = λ e l.
              let same : (entry g.claim.entries e).kind ≡ get_or ks e 0 = ap (λ (t : Table). (entry t e).kind) table_is ∙ table_of_kind ks xs ys n e l in
              omega (arith, kind_known formed e);
          formed = subst Formed table_is formed.formed;
        }

-- 1: the lengths
module _ (n : ℕ) (claim model ws₀ : List ℕ) (bc : Bytes claim) (bm : Bytes model) (ks xs ys : List ℕ) where
  lengths : (es : Table) → length es ≡ n → (b : Bool) → (ltb n 256 || ltb (length ws₀) 256) ≡ b
      → evaluating claim model (record { entries = es; words = ws₀ }) ≡ if_long b (record { entries = es; words = ws₀ }) (evaluated (in_model claim model) (record { entries = es; words = ws₀ }))
  unfolding evaluating
  lengths es e b h =
      ap (λ (c : Bool). if_long c (record { entries = es; words = ws₀ }) (evaluated (in_model claim model) (record { entries = es; words = ws₀ })))
      (ap (λ (k : ℕ). ltb k 256 || ltb (length ws₀) 256) e ∙ h)

  short_right : (ltb n 256 || ltb (length ws₀) 256) ≡ true → {r : Evaluation} → Refuses 1 0 r → EvaluatedFiles n claim model ws₀ r ks xs ys ws₀
  short_right h (i, w) = rw i (record {
    stored = (omega arith, omega arith);
    claim_bytes_lem = bc;
    model_bytes = bm;
    right = λ es e. right_same (lengths es e true h) (right_refused ks xs ys es ws₀ 1 0 w);
  })

  pub entries_short : n < 256 → {r : Evaluation} → Refuses 1 0 r → EvaluatedFiles n claim model ws₀ r ks xs ys ws₀
  entries_short h = short_right (ap (λ (b : Bool). b || ltb (length ws₀) 256) (lt-ltb n 256 h))

  pub words_short : length ws₀ < 256 → {r : Evaluation} → Refuses 1 0 r → EvaluatedFiles n claim model ws₀ r ks xs ys ws₀
  words_short h = short_right (ap (λ (b : Bool). ltb n 256 || b) (lt-ltb (length ws₀) 256 h) ∙ or-true (ltb n 256))

  pub files_evaluated : 256 ≤ n → 256 ≤ length ws₀ → {r : Evaluation} {ws : List ℕ} → Staged (evaluated (in_model claim model)) ws₀ r ks xs ys ws → EvaluatedFiles n claim model ws₀ r ks xs ys ws
  files_evaluated h k s = record {
    stored = (s.few, omega (arith, s.few));
    claim_bytes_lem = bc;
    model_bytes = bm;
    right = λ es e. right_same (lengths es e false (rw (le-ltb n 256 h, le-ltb (length ws₀) 256 k) refl)) (s.right es);
  }

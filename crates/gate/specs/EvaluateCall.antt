-- the promise of an evaluation
use Rattle.std.specs.Prelude.{◌≡◌, refl, ◌↔◌, List, ℕ, length}
use Rattle.std.proofs.Common.{sym, ap, ◌∙◌}
use Rattle.std.proofs.lemmas.List.{length-map}
use Rattle.verdict.specs.Verdict.{Verdict, accepted, packed_wide, Within}
use Rattle.verdict.specs.Lists.{written}
use Rattle.encoding.specs.Encode.{Bytes}
use Rattle.formula.specs.Table.{Table}
use Rattle.records.specs.Records.{shown_entry, shown_entries, entries_of}
use Rattle.records.specs.Shown.{map_written, entries_shown}
use Rattle.records.specs.declared.Entry.{Entry}
use Rattle.demands.specs.Slices.{LentWords}
use Rattle.demands.specs.Evaluate.{evaluating}
use Rattle.demands.specs.EvaluationEarned.{EvaluationEarned, Evaluable}
use Rattle.demands.proofs.EvaluateExact as exactly
use Rattle.demands.specs.RefusedAs.{RefusedAs, wide_decoded, refused_as, zero_accepts}
use Rattle.demands.specs.Numbered.{evaluation_number}
use Rattle.evaluation.specs.EvaluateFiles as files
use Rattle.evaluation.specs.EvaluateFiles.{Evaluation, EvaluatedFiles, to_store}
use Rattle.gate.specs.LentWords.{lent_words_of}

-- the promise of an evaluation: the answer, what every lent slice holds afterwards, and what the answer says of the input
pub record EvaluateCall (claim model : List ℕ) (es : List Entry) (ws : List ℕ) (r : ℕ) (es' : List Entry) (ws' : List ℕ) : Type 0 where
  -- 0, or refusal × 2^32 + place
  pub answer : r ≡ packed_wide (evaluating claim model (lent_words_of es ws)).answer
  pub lent : lent_words_of es' ws' ≡ (evaluating claim model (lent_words_of es ws)).lent
  -- finished exactly when the slices are long enough, the claim is well formed and the model is a model file
  pub exact : (r ≡ 0) ↔ Evaluable claim model (lent_words_of es ws)
  -- any other answer is the refusal that the input earns, and what it earns is answered; the number tells which it is, and where
  pub refuses : RefusedAs 4294967296 (EvaluationEarned claim model (lent_words_of es ws)) r

-- what the answer says of the input
module _ {claim model : List ℕ} (bc : Bytes claim) (bm : Bytes model) (l : LentWords) {r : ℕ} (answer : r ≡ packed_wide (evaluating claim model l).answer)
    (within : Within 4294967296 (evaluating claim model l).answer) where
  abbrev answered : Verdict
  answered = (evaluating claim model l).answer

  accepts : r ≡ 0 → answered ≡ accepted
  accepts z = zero_accepts answered (λ n q h. evaluation_number ((exactly.refusal claim model l bc bm).0 h)) (sym answer ∙ z)

  finishes : (r ≡ 0) ↔ Evaluable claim model l
  finishes = let right_if = exactly.exact claim model l bc bm in (λ z. right_if.0 (accepts z), λ k. answer ∙ ap packed_wide (right_if.1 k))

  refuses : RefusedAs 4294967296 (EvaluationEarned claim model l) r
  refuses = refused_as 4294967296 wide_decoded answered (λ n q. exactly.refusal claim model l bc bm) r answer within

-- the records that are stored from the columns show the entries that the definition leaves
pub evaluate_call : {claim model : List ℕ} {es es' : List Entry} {ks xs ys ws ws' : List ℕ} {r : Evaluation} {n : ℕ} → EvaluatedFiles (length es) claim model ws r ks xs ys ws'
    → n ≡ packed_wide (files.answered r) → es' ≡ written (entries_of ks xs ys (to_store r)) es → EvaluateCall claim model es ws n es' ws'
evaluate_call {es = es} {ks = ks} {xs = xs} {ys = ys} {ws = ws} {r = r} done number stored =
    let right = done.right (shown_entries es) (length-map es shown_entry) in
    let answer = number ∙ ap packed_wide right.answer in
    let shown = ap shown_entries stored ∙ map_written shown_entry (entries_of ks xs ys (to_store r)) es ∙ ap (λ (t : Table). written t (shown_entries es)) (entries_shown ks xs ys (to_store r)) in
    record {
      answer = answer;
      lent = rw (shown, sym right.entries, right.words) refl;
      exact = finishes done.claim_bytes_lem done.model_bytes (lent_words_of es ws) answer right.within;
      refuses = refuses done.claim_bytes_lem done.model_bytes (lent_words_of es ws) answer right.within;
    }

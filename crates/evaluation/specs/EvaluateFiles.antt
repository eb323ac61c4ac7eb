-- an evaluation in plain numbers: how many entries' records are to be stored, what is answered, and the lent words
use Rattle.std.specs.Prelude.{◌≡◌, List, ℕ, ◌<◌, ◌≤◌, length, Result, Ok, Err}
use Rattle.verdict.specs.Verdict as verdicts
use Rattle.verdict.specs.Verdict.{accepted, Within}
use Rattle.verdict.specs.declared.Refusal.{Refusal}
use Rattle.verdict.specs.Lists.{written}
use Rattle.encoding.specs.Encode.{Bytes}
use Rattle.encoding.specs.File.{Reading, refused, good}
use Rattle.formula.specs.Table.{Table}
use Rattle.formula.specs.Plain.{table_of}
use Rattle.model_files.specs.ModelFile.{State}
use Rattle.model_files.specs.Described.{model_of}
use Rattle.states.specs.Words.{words}
use Rattle.demands.specs.Slices.{LentWords}
use Rattle.demands.specs.Evaluate.{Evaluated, unevaluated, evaluating}

abbrev pub Evaluation : Type 0
Evaluation = Result ℕ (Refusal ℕ)

-- the verdict that it stands for, and so many entries' records that are to be stored: none with a refusal
abbrev pub answered : Evaluation → verdicts.Verdict
answered (Ok k) = accepted
answered (Err f) = verdicts.refused f.number f.place

abbrev pub to_store : Evaluation → ℕ
to_store (Ok k) = k
to_store (Err f) = 0

-- the answer, the words as they are left, and of the columns so many entries as are to be stored over es: what x says
pub record Right (ks xs ys : List ℕ) (x : Evaluated) (es : Table) (r : Evaluation) (ws : List ℕ) : Type 0 where
  pub answer : answered r ≡ x.answer
  -- with a place that the number tells
  pub within : Within 4294967296 x.answer
  pub words : ws ≡ x.lent.words
  pub entries : x.lent.entries ≡ written (table_of ks xs ys (to_store r)) es

-- n: the length of the lent slice of records, whatever stands in them; a lent slice of bytes holds bytes
pub record EvaluatedFiles (n : ℕ) (claim model ws₀ : List ℕ) (r : Evaluation) (ks xs ys ws : List ℕ) : Type 0 where
  pub stored : (to_store r ≤ 256) × (to_store r ≤ n)
  pub claim_bytes_lem : Bytes claim
  pub model_bytes : Bytes model
  pub right : (es : Table) → length es ≡ n → Right ks xs ys (evaluating claim model (record { entries = es; words = ws₀ })) es r ws

-- a stage of it behind refusal 1
pub record Staged (x : LentWords → Evaluated) (ws₀ : List ℕ) (r : Evaluation) (ks xs ys ws : List ℕ) : Type 0 where
  pub few : to_store r ≤ 256
  pub right : (es : Table) → Right ks xs ys (x (record { entries = es; words = ws₀ })) es r ws

abbrev pub refusal : ℕ → ℕ → Evaluation
refusal n q = Err (record { number = n; place = q })

abbrev pub Refuses : ℕ → ℕ → Evaluation → Type 0
Refuses n q r = (r ≡ refusal n q) × (q < 4294967296)

-- the model by bytes, over the table of a well-formed claim; then each entry's word, and the claim's records
abbrev pub after_model_lem : Table → Reading (List State) → LentWords → Evaluated
after_model_lem t (refused n q) l = unevaluated n q l
after_model_lem t (good m) l = record {
  answer = accepted;
  lent = record { entries = written t l.entries; words = written (words (model_of m) t) l.words };
}

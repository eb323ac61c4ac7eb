-- evaluating a claim in a model: answer and lent slices on every input
use Rattle.std.specs.Prelude.{List, Bool, true, false, ℕ}
use Rattle.verdict.specs.Verdict as verdicts
use Rattle.verdict.specs.Verdict.{Verdict, accepted}
use Rattle.verdict.specs.Lists.{written}
use Rattle.encoding.specs.File.{Reading, refused, good}
use Rattle.model_files.specs.ModelFile.{State}
use Rattle.model_files.specs.Described.{model_of}
use Rattle.model_files.specs.ReadModel.{read_model}
use Rattle.states.specs.Words.{words}
use Rattle.reader.specs.Files.{read_formed_lem, Files, reading}
use Rattle.demands.specs.Slices.{LentWords, short_words}

pub record Evaluated : Type 0 where
  pub answer : Verdict
  pub lent : LentWords

abbrev pub unevaluated : ℕ → ℕ → LentWords → Evaluated
unevaluated n q l = record { answer = verdicts.refused n q; lent = l }

-- the claim's refusals, then the model's (60 to 64)
unfoldable pub in_model : List ℕ → List ℕ → Reading (Files (List State))
unfolding read_formed_lem read_model
in_model claim model = reading claim (λ c. read_model model)

-- past them each entry's word, and the claim's records
abbrev pub evaluated : Reading (Files (List State)) → LentWords → Evaluated
evaluated (refused n q) l = unevaluated n q l
evaluated (good f) l = record {
  answer = accepted;
  lent = record {
    entries = written f.claim.entries l.entries;
    words = written (words (model_of f.beside) f.claim.entries) l.words;
  };
}

-- refusal 1 before the files
abbrev pub if_long : Bool → LentWords → Evaluated → Evaluated
if_long true l next = unevaluated 1 0 l
if_long false l next = next

unfoldable pub evaluating : List ℕ → List ℕ → LentWords → Evaluated
unfolding in_model model_of words
evaluating claim model l = if_long (short_words l) l (evaluated (in_model claim model) l)

-- the refusal that an evaluation's input earns: its condition at its place, and nothing that comes before it in the order
use Rattle.std.specs.Prelude.{List, ◌⊎◌, ℕ, ◌<◌, ◌≤◌, length}
use Rattle.model_files.specs.ModelFile.{State, ModelFile}
use Rattle.model_files.specs.ModelDocument.{ModelEarns}
use Rattle.reader.specs.Files.{Files}
use Rattle.reader.specs.WellFormed.{FilesFormed, FilesUnformed}
use Rattle.demands.specs.Slices.{LentWords}

-- "slices are long enough": none that the call takes is under its length in refusal 1
abbrev pub Short : LentWords → Type 0
Short l = (length l.entries < 256) ⊎ (length l.words < 256)

abbrev pub Long : LentWords → Type 0
Long l = (256 ≤ length l.entries) × (256 ≤ length l.words)

pub data EvaluationEarned (claim model : List ℕ) (l : LentWords) : ℕ → ℕ → Type 0 where
  -- 1 comes first, at place 0
  by_lengths : Short l → EvaluationEarned claim model l 1 0
  -- 10 to 14: the claim by bytes; 20 over all entries; 21, 22, 23 entry by entry; 60 to 64: then the model by bytes
  by_files : {n q : ℕ} → Long l → FilesUnformed claim (λ c. ModelEarns model) n q → EvaluationEarned claim model l n q

-- none is earned: the slices are long enough, the claim is well formed, and the model is a model file
pub record Evaluable (claim model : List ℕ) (l : LentWords) : Type 0 where
  pub long : Long l
  pub read : Files (List State)
  -- 10 to 23, and 60 to 64
  pub formed : FilesFormed claim (λ c m. ModelFile model m) read

-- an evaluation by the lengths of the lent slices, and what its words are
use Rattle.std.specs.Prelude.{◌≡◌, Bool, false, List, ℕ, ◌<◌, ◌≤◌, length}
use Rattle.std.proofs.Common.{◌∙◌, inl, inr, arith}
use Rattle.std.proofs.Math.Path.{ap}
use Rattle.std.proofs.Math.ListN.{get_or, get_or-append}
use Rattle.verdict.specs.Tells.{Tells, ltb_tells, or_tells, fails_holds}
use Rattle.encoding.specs.Encode.{Bytes}
use Rattle.encoding.specs.File.{Reading, good}
use Rattle.bits.specs.Bits.{bit}
use Rattle.meaning.specs.Meaning.{own}
use Rattle.model_files.specs.ModelFile.{State, ModelFile}
use Rattle.model_files.specs.ModelDocument.{ModelEarns}
use Rattle.model_files.specs.Described.{model_of}
use Rattle.model_files.proofs.ModelExact.{model_good, good_model}
use Rattle.model_files.proofs.ModelFaults.{model_refused, model_earned}
use Rattle.states.specs.Words.{word, words}
use Rattle.states.specs.WordLaws.{words_length, words_at, word_inside, word_past}
use Rattle.reader.specs.Files.{Files}
use Rattle.reader.specs.WellFormed.{FilesFormed, FilesUnformed}
use Rattle.reader.specs.Exactly.{Exactly}
use Rattle.reader.proofs.FilesExact.{reading_exactly}
use Rattle.demands.specs.Slices.{LentWords, short_words}
use Rattle.demands.specs.Evaluate.{Evaluated, unevaluated, in_model, evaluated, if_long, evaluating}
use Rattle.demands.specs.EvaluationEarned.{Short, Long, Evaluable}

pub short_tells : (l : LentWords) → Tells (short_words l) (Short l)
short_tells l = or_tells (ltb_tells (length l.entries) 256) (ltb_tells (length l.words) 256)

short_not_long : (l : LentWords) → Long l → Short l → ⊥
short_not_long l (a, b) (inl h) = omega arith
short_not_long l (a, b) (inr h) = omega arith

module _ (claim model : List ℕ) (l : LentWords) (bc : Bytes claim) (bm : Bytes model) where
  pub files_exactly : Exactly (in_model claim model) (FilesFormed claim (λ c m. ModelFile model m)) (FilesUnformed claim (λ c. ModelEarns model))
  unfolding in_model
  files_exactly = reading_exactly claim bc (λ c m. ModelFile model m) (λ c. ModelEarns model) λ c. record {
    gives = λ m f. model_good f;
    given = λ m h. good_model bm h;
    refuses = λ n q e. model_refused e;
    earned = λ n q h. model_earned bm h;
  }

  -- what is found, by the lengths and then by what was read
  pub at_lengths : Short l → evaluating claim model l ≡ unevaluated 1 0 l
  unfolding evaluating
  at_lengths h = ap (λ (b : Bool). if_long b l (evaluated (in_model claim model) l)) ((short_tells l).holds h)

  pub past_lengths : Long l → {r : Reading (Files (List State))} → in_model claim model ≡ r → evaluating claim model l ≡ evaluated r l
  unfolding evaluating
  past_lengths long h =
      ap (λ (b : Bool). if_long b l (evaluated (in_model claim model) l)) (fails_holds (short_tells l) (short_not_long l long))
      ∙ ap (λ (r : Reading (Files (List State))). evaluated r l) h

  pub evaluable_finishes : (k : Evaluable claim model l) → evaluating claim model l ≡ evaluated (good k.read) l
  evaluable_finishes k = past_lengths k.long (files_exactly.gives k.read k.formed)

  -- what a finished evaluation writes: bit s of an entry's word for state s, and all bits past the last state zero
  module _ (k : Evaluable claim model l) (e : ℕ) (inside : e < length k.read.claim.entries) where
    word_at_lem : get_or (evaluating claim model l).lent.words e 0 ≡ word (length k.read.beside) (own (model_of k.read.beside) k.read.claim.entries e)
    unfolding model_of
    word_at_lem =
        let M = model_of k.read.beside in
        ap (λ (d : Evaluated). get_or d.lent.words e 0) (evaluable_finishes k)
        ∙ get_or-append (words M k.read.claim.entries) _ 0 e (omega (arith, words_length M k.read.claim.entries))
        ∙ words_at M k.read.claim.entries e inside

    pub word_bit : (s : ℕ) → s < length k.read.beside
        → bit (get_or (evaluating claim model l).lent.words e 0) s ≡ own (model_of k.read.beside) k.read.claim.entries e s
    word_bit s h = ap (λ (w : ℕ). bit w s) word_at_lem ∙ word_inside _ _ s h

    pub word_past_end : (s : ℕ) → length k.read.beside ≤ s → bit (get_or (evaluating claim model l).lent.words e 0) s ≡ false
    word_past_end s h = ap (λ (w : ℕ). bit w s) word_at_lem ∙ word_past _ _ s h

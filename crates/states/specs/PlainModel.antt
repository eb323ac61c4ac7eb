-- a model in plain numbers: the states' letter masks and the rows of successor marks
use Rattle.std.specs.Prelude.{◌≡◌, List, Bool, true, false, ◌&&◌, ℕ, ◌<◌, ltb, get_or}
use Rattle.std.proofs.Math.Path.{refl}
use Rattle.std.proofs.Math.Decide.{dec_lt}
use Rattle.std.proofs.Common.{arith}
use Rattle.std.proofs.Math.ListN.{length}
use borrow.Author.Tests.{lt-ltb, le-ltb}
use Rattle.formula.specs.Table.{Table}
use Rattle.meaning.specs.States.{Model}
use Rattle.bits.specs.Bits.{bit}
use Rattle.model_files.specs.ModelFile.{State, FitModel}
use Rattle.model_files.specs.Described.{state, model_of, successor_table}
use Rattle.model_files.specs.DescribedLaws.{cell, successor_from, successor_inside, size_counts}
use Rattle.model_files.proofs.DescribedLaws.{cell_tells}
use Rattle.states.specs.Words.{words}

-- action a leads from s to u, by the mark of u in row s; only rows and marks of states count
abbrev pub marked : List (List ℕ) → ℕ → ℕ → ℕ → ℕ → Bool
marked marks n a s u = ltb s n && (ltb u n && bit (cell marks s u) a)

abbrev pub plain_model : List ℕ → List (List ℕ) → ℕ → Model
plain_model masks marks n = record {
  size = n;
  letter = λ s p. bit (get_or masks s 0) p;
  succ = marked marks n;
}

-- what an evaluation writes of a table in this model
abbrev pub words_in : List ℕ → List (List ℕ) → ℕ → Table → List ℕ
words_in masks marks n t = words (plain_model masks marks n) t

not_there : (b : Bool) → (b ≡ true → ⊥) → false ≡ b
not_there true h = absurd (h refl)
not_there false h = refl

-- for a file's states it is the model that the file describes
module _ {m : List State} (f : FitModel m) where
  succ_is : (a s u : ℕ) → marked (successor_table m) (length m) a s u ≡ (model_of m).succ a s u
  unfolding model_of
  succ_is a s u = go (dec_lt s (length m)) (dec_lt u (length m))
    where
      go : Dec (s < length m) → Dec (u < length m) → marked (successor_table m) (length m) a s u ≡ (model_of m).succ a s u
      go (yes h) (yes k) =
          let c = size_counts f in
          rw (lt-ltb s (length m) h, lt-ltb u (length m) k, cell_tells f a s u (omega (arith, c)) (omega (arith, c))) refl
      go (yes h) (no k) = rw (lt-ltb s (length m) h, le-ltb u (length m) (omega arith)) (not_there _ (λ e. let l = successor_inside f a s u e in omega (arith, l)))
      go (no h) k = rw (le-ltb s (length m) (omega arith)) (not_there _ (λ e. let l = successor_from m a s u e in omega (arith, l)))

  pub plain_described : (masks : List ℕ) → ((s : ℕ) → get_or masks s 0 ≡ (state m s).mask) → plain_model masks (successor_table m) (length m) ≡ model_of m
  unfolding model_of
  plain_described masks h = λ i. record { size = length m; letter = λ s p. bit (h s i) p; succ = λ a s u. succ_is a s u i }

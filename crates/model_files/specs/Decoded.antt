-- what a good model file decodes to: its states and their letter masks
use Rattle.std.specs.Prelude.{◌≡◌, refl, List, [], ℕ}
use Rattle.verdict.specs.Verdict.{accepted}
use Rattle.verdict.specs.VerdictLaws.{accepted_not_refused}
use Rattle.verdict.specs.Lists.{values_from}
use Rattle.encoding.specs.File.{Reading, refused, good}
use Rattle.encoding.specs.Outcome.{verdict_of}
use Rattle.model_files.specs.ModelFile.{State}
use Rattle.model_files.specs.ReadModel.{read_model}
use Rattle.model_files.specs.Described.{state}

abbrev pub GoodModel : List ℕ → Type 0
GoodModel s = verdict_of (read_model s) ≡ accepted

abbrev decoding : Reading (List State) → List State
decoding (good m) = m
decoding (refused n q) = []

-- the states of a good file
unfoldable pub states_of : List ℕ → List State
states_of s = decoding (read_model s)

pub good_states : (s : List ℕ) → GoodModel s → read_model s ≡ good (states_of s)
unfolding states_of
good_states s h = go (read_model s) h
  where
    go : (r : Reading (List State)) → verdict_of r ≡ accepted → r ≡ good (decoding r)
    go (good m) h = refl
    go (refused n q) h = absurd (accepted_not_refused h)

-- 64 letter masks, none past the last state
unfoldable pub mask_table : List State → List ℕ
unfolding values_from
mask_table m = values_from (λ s. (state m s).mask) 0 64

-- the model that a file describes, and its successor table
use Rattle.std.specs.Prelude.{List, [], ℕ, length, get_or}
use Rattle.verdict.specs.Lists.{values_from}
use Rattle.verdict.specs.Tests.{member}
use Rattle.meaning.specs.States.{Model}
use Rattle.bits.specs.Bits.{bit}
use Rattle.model_files.specs.Actions.{ACTIONS, map_of}
use Rattle.model_files.specs.ModelFile.{State}

-- a state with no letter and no successor, past the last
abbrev pub blank : State
blank = record { mask = 0; lists = [] }

abbrev pub state : List State → ℕ → State
state m s = get_or m s blank

-- the successors of a state by an action
abbrev pub successors : State → ℕ → List ℕ
successors x n = get_or x.lists n []

-- bit p of the mask for letter p; the successors listed for each action
unfoldable pub model_of : List State → Model
unfolding bit member
model_of m = record {
  size = length m;
  letter = λ s p. bit (state m s).mask p;
  succ = λ n s u. member (successors (state m s) n) u;
}

-- the actions that lead from s to u, as a map
unfoldable pub mark : List State → ℕ → ℕ → ℕ
unfolding member map_of
mark m s u = map_of ACTIONS (λ n. member (successors (state m s) n) u)

unfoldable pub row : List State → ℕ → List ℕ
unfolding values_from mark
row m s = values_from (mark m s) 0 64

-- 64 rows of 64 marks
unfoldable pub successor_table : List State → List (List ℕ)
unfolding values_from row
successor_table m = values_from (row m) 0 64

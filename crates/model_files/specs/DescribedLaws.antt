-- what the described model and its successor table have: sizes, marks, letters and successors in range
use Rattle.std.specs.Prelude.{◌≡◌, true, false, ℕ, ◌<◌, ◌≤◌}
use Rattle.std.proofs.Math.Path.{sym, ap}
use Rattle.std.proofs.Common.{◌∙◌, arith}
use mathlib.Core.List.{List, []}
use Rattle.std.proofs.lemmas.Bool.{false≢true}
use Rattle.std.proofs.Math.Decide.{dec_lt}
use Rattle.std.proofs.Math.ListN.{length, get_or, get_or-eq_default}
use Rattle.verdict.specs.Lists.{Each, none, values_from_at}
use Rattle.verdict.specs.EachLaws.{each_at, each_member}
use Rattle.verdict.specs.Tests.{any, member}
use Rattle.verdict.specs.SetTells.{member_tells}
use Rattle.encoding.specs.Encode.{Counts}
use Rattle.encoding.specs.ChainLaws.{each_as}
use Rattle.bits.specs.Bits.{bit}
use Rattle.model_files.specs.Actions.{ACTIONS, map_bit}
use Rattle.model_files.specs.ModelFile.{State, FitList, FitState, FitModel}
use Rattle.model_files.specs.Described.{blank, state, successors, model_of, mark, row, successor_table}

-- mark u of row s
abbrev pub cell : List (List ℕ) → ℕ → ℕ → ℕ
cell t s u = get_or (get_or t s []) u 0

module _ (m : List State) where
  pub row_at : (s : ℕ) → s < 64 → get_or (successor_table m) s [] ≡ row m s
  unfolding successor_table
  row_at s h = values_from_at (row m) [] 0 64 s h ∙ ap (row m) (omega arith)

  pub cell_mark : (s u : ℕ) → s < 64 → u < 64 → cell (successor_table m) s u ≡ mark m s u
  unfolding row
  cell_mark s u h k = ap (λ (l : List ℕ). get_or l u 0) (row_at s h) ∙ values_from_at (mark m s) 0 0 64 u k ∙ ap (mark m s) (omega arith)

  -- bit n where action n leads from s to u
  pub cell-is : (n s u : ℕ) → n < ACTIONS → s < 64 → u < 64 → bit (cell (successor_table m) s u) n ≡ (model_of m).succ n s u
  unfolding mark model_of
  cell-is n s u l h k = ap (λ (w : ℕ). bit w n) (cell_mark s u h k) ∙ map_bit ACTIONS (λ (a : ℕ). member (successors (state m s) a) u) n l

  -- past the last state there is no successor
  pub successor_from : (n s u : ℕ) → (model_of m).succ n s u ≡ true → s < (model_of m).size
  unfolding model_of member any
  successor_from n s u e = go (dec_lt s (length m))
    where
      go : Dec (s < length m) → s < length m
      go (yes h) = h
      go (no h) =
          let x : state m s ≡ blank = get_or-eq_default m blank (omega arith) in
          absurd (false≢true (ap (λ (x : State). member (successors x n) u) (sym x) ∙ e))

-- no list: that of a state past the last, and of an action past the last
empty_fits : (n : ℕ) → FitList n []
empty_fits n = record { rising = λ i h. absurd (omega arith); in_range = none }

module _ {m : List State} (f : FitModel m) where
  lists_fit : (s : ℕ) → Each (FitList (length m)) (state m s).lists
  lists_fit s = each_at {P = λ x. Each (FitList (length m)) x.lists} blank none (each_lists f.each) s
    where
      each_lists : {l : List State} → Each (FitState (length m)) l → Each (λ (x : State). Each (FitList (length m)) x.lists) l
      each_lists e = each_as (λ x h. h.each) e

  -- the state count: 1 to 64
  pub size_counts : Counts 1 64 (model_of m).size
  unfolding model_of
  size_counts = f.count

  -- successors are states
  pub successor_inside : (n s u : ℕ) → (model_of m).succ n s u ≡ true → u < (model_of m).size
  unfolding model_of
  successor_inside n s u e =
      each_member (each_at [] (empty_fits (length m)) (lists_fit s) n).in_range u ((member_tells (successors (state m s) n) u).says e)

  -- there are no actions but 0 to 15
  pub no_action : (n s u : ℕ) → ACTIONS ≤ n → (model_of m).succ n s u ≡ false
  unfolding model_of member any
  no_action n s u h = ap (λ (l : List ℕ). member l u) (get_or-eq_default (state m s).lists [] (omega (arith, few s)))
    where
      few : (s : ℕ) → length (state m s).lists ≤ ACTIONS
      few s = each_at {P = λ x. length x.lists ≤ ACTIONS} blank (omega arith) (each_as (λ x (k : FitState (length m) x). omega (arith, k.actions)) f.each) s

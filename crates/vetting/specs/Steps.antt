-- what a step over records finds, as the walk over them says
use Rattle.std.specs.Prelude.{◌≡◌, List, ℕ, ◌+◌, ◌*◌, ◌≤◌, get_or, Result, Ok, Err}
use Rattle.formula.specs.Records.{NodeRecord}
use Rattle.writing.specs.Ends.{End, next, stop}
use Rattle.verdict.specs.declared.Refusal.{Refusal}

-- the place after the records, or a refusal
abbrev pub Step : Type 0
Step = Result ℕ (Refusal ℕ)

abbrev pub shown_step : Step → End
shown_step (Ok o) = next o
shown_step (Err r) = stop r.number r.place

-- the walk's end, and no place past a limit
pub record Finds (e : End) (limit : ℕ) (r : Step) : Type 0 where
  pub found : shown_step r ≡ e
  pub near : (o : ℕ) → r ≡ Ok o → o ≤ limit

-- a record by its rule, its links and its code count
abbrev pub record_at : ℕ → List ℕ → ℕ → ℕ → NodeRecord
record_at r ls v n = record {
  rule = r;
  principal = get_or ls (4 * v) 0;
  first = get_or ls (4 * v + 1) 0;
  second = get_or ls (4 * v + 2) 0;
  back = get_or ls (4 * v + 3) 0;
  count = n;
}

-- the same by the structs that hold what is read
use Rattle.std.specs.Prelude.{List, ℕ, ◌+◌, ◌*◌, ◌<◌, ◌≤◌, length, get_or}
use Rattle.formula.specs.Table.{Table}
use Rattle.states.specs.PlainModel.{words_in}
use Rattle.forming.specs.declared.columns.ClaimColumns.{ClaimColumns}
use Rattle.forming.specs.declared.columns.ModelWords.{ModelWords}
use Rattle.dependencies.specs.Actions.{Modal}
use Rattle.evaluator.specs.declared.marked.MarkedModel.{MarkedModel}
use Rattle.evaluator.specs.Swept.{Swept}

-- the rows of each action of the claim
abbrev pub HasRows : ClaimColumns → ModelWords → Type 0
HasRows c m = (e : ℕ) → e < length c.kinds.now → Modal (get_or c.kinds.now e 0) → 64 * get_or c.b.now e 0 + 64 ≤ length m.rows.now

abbrev pub SweptIn : ClaimColumns → ModelWords → ℕ → List ℕ → List ℕ → Type 0
SweptIn c m p ws ds = Swept c.kinds.now c.a.now c.b.now m.masks.now m.rows.now m.size p ws ds

abbrev pub marked_words : MarkedModel → Table → List ℕ
marked_words m t = words_in m.masks.now m.table.marks.now m.table.n t

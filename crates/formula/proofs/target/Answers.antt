use mathlib.Core.Path.{sym, ◌∙◌}
use Rattle.formula.specs.Plain.{table_of, table_of_kind, table_of_a}
use Rattle.formula.specs.ShapeLaws.{target_name, target_other}
use Rattle.formula.proofs.target.Goals as goal

pub returns-then-kinds-e-eq-NAME : goal.returns-then-kinds-e-eq-NAME
returns-then-kinds-e-eq-NAME c =
    let given = c.args in
    λ ys n h. sym
    (target_name (table_of given.kinds.now given.a.now ys n) given.operand
    (table_of_kind given.kinds.now given.a.now ys n given.operand h ∙ c.if-kinds-e-eq-NAME.true)
    ∙ table_of_a given.kinds.now given.a.now ys n given.operand h)

pub returns : goal.returns
returns c =
    let given = c.args in
    λ ys n h. sym
    (target_other (table_of given.kinds.now given.a.now ys n) given.operand
    (λ q. c.if-kinds-e-eq-NAME.false (sym (table_of_kind given.kinds.now given.a.now ys n given.operand h) ∙ q)))

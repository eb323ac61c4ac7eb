-- `number_at` meets its contract, test by test.
use mathlib.Core.Path.{sym, ap, ◌∙◌}
use Rattle.verdict.specs.Shown.{earned}
use Rattle.operands.specs.OperandBounds.{number_out, number_far, number_zero}
use Rattle.operands.proofs.number_at.Goals as goal

pub returns-then-out : goal.returns-then-out
returns-then-out c = ap earned (number_out _ _ (sym c.out.ensures ∙ c.if-out.true))

pub returns-then-acts_far : goal.returns-then-acts_far
returns-then-acts_far c =
    let given = c.args in
    ap earned (number_far given.table.now.kinds.now given.table.now.a.now given.table.now.b.now given.table.now.count given.e c.requires
    (sym c.out.ensures ∙ c.if-out.false)
    (sym c.acts_far.ensures ∙ c.if-acts_far.true))

pub returns : goal.returns
returns c =
    let given = c.args in
    ap earned (number_zero given.table.now.kinds.now given.table.now.a.now given.table.now.b.now given.table.now.count given.e c.requires
    (sym c.out.ensures ∙ c.if-out.false)
    (sym c.acts_far.ensures ∙ c.if-acts_far.false))

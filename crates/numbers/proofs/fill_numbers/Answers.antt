-- Nothing stands before the first round; after the last everything does, and the numbers tell the formulas apart.
use native.Mathlib.Omega.{arith}
use Rattle.numbers.specs.Begun.{begins}
use Rattle.numbers.specs.Ended.{told}
use Rattle.numbers.proofs.fill_numbers.Goals as goal

pub fill-requires : goal.fill-requires
fill-requires c =
    let given = c.requires in
    begins given.0 c.prepare_all.ensures c.fill_free_rows.ensures
    (omega (arith, given.1.free)) given.1.cells given.1.marks

pub returns : goal.returns
returns c = told c.fill.ensures

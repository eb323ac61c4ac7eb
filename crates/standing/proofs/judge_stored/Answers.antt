-- The formulas of a claim that was read can be numbered, and the column that has their numbers is what the judge asks for.
use Rattle.laid.specs.Numbering.{numbers_told}
use Rattle.standing.proofs.judge_stored.Goals as goal

pub number_formulas-requires : goal.number_formulas-requires
number_formulas-requires c = c.requires.0.table

pub invariant_of-table : goal.invariant_of-table
invariant_of-table c = record { numbers = numbers_told c.requires.0.table c.number_formulas.ensures }

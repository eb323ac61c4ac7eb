-- the claim's formulas are numbered, and then the proof is judged
use Rattle.laid.specs.Numbering.{numbers_told}
use Rattle.single.proofs.judge_rules.Goals as goal

pub number_formulas-requires : goal.number_formulas-requires
number_formulas-requires c = c.requires.table

pub invariant_of-table : goal.invariant_of-table
invariant_of-table c = record { numbers = numbers_told c.requires.table c.number_formulas.ensures }

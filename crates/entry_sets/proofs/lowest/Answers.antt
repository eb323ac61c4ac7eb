-- the first word that is not 0
use native.Mathlib.Omega.{arith}
use Rattle.entry_sets.specs.Sets.{lowest_found, lowest_none}
use Rattle.entry_sets.proofs.lowest.Goals as goal

pub returns-then-set-ne0 : goal.returns-then-set-ne0
returns-then-set-ne0 c = lowest_found _ 0 _ c.lowest_bit.ensures.small c.lowest_bit.ensures.stands (omega arith) _ (omega arith)

pub returns-then-set-ne0-2 : goal.returns-then-set-ne0-2
returns-then-set-ne0-2 c = lowest_found _ 1 _ c.lowest_bit-then-set-ne0-2.ensures.small c.lowest_bit-then-set-ne0-2.ensures.stands (omega arith) _ (omega arith)

pub returns-then-set-ne0-3 : goal.returns-then-set-ne0-3
returns-then-set-ne0-3 c = lowest_found _ 2 _ c.lowest_bit-then-set-ne0-3.ensures.small c.lowest_bit-then-set-ne0-3.ensures.stands (omega arith) _ (omega arith)

pub returns-then-set-ne0-4 : goal.returns-then-set-ne0-4
returns-then-set-ne0-4 c = lowest_found _ 3 _ c.lowest_bit-then-set-ne0-4.ensures.small c.lowest_bit-then-set-ne0-4.ensures.stands (omega arith) _ (omega arith)

pub returns-else-set-ne0-4 : goal.returns-else-set-ne0-4
returns-else-set-ne0-4 c =
    lowest_none _ c.requires c.if-set-ne0.false c.if-set-ne0-2.false c.if-set-ne0-3.false c.if-set-ne0-4.false

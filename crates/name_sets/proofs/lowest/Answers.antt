-- the first word that is not 0
use native.Mathlib.Omega.{arith}
use Rattle.name_sets.specs.Ordered.{lowest_in, lowest_none}
use Rattle.name_sets.proofs.lowest.Goals as goal

pub returns-then-x-ne0 : goal.returns-then-x-ne0
returns-then-x-ne0 c = lowest_in _ 0 (λ h. absurd (omega arith)) (λ h. absurd (omega arith)) (λ h. absurd (omega arith)) (λ h. absurd (omega arith)) (omega arith) _ c.lowest_bit.ensures _ (omega arith)

pub returns-then-x-ne0-2 : goal.returns-then-x-ne0-2
returns-then-x-ne0-2 c = lowest_in _ 1 (λ _. c.if-x-ne0.false) (λ h. absurd (omega arith)) (λ h. absurd (omega arith)) (λ h. absurd (omega arith)) (omega arith) _ c.lowest_bit-then-x-ne0-2.ensures _ (omega arith)

pub returns-then-x-ne0-3 : goal.returns-then-x-ne0-3
returns-then-x-ne0-3 c =
    lowest_in _ 2 (λ _. c.if-x-ne0.false) (λ _. c.if-x-ne0-2.false) (λ h. absurd (omega arith)) (λ h. absurd (omega arith)) (omega arith) _
    c.lowest_bit-then-x-ne0-3.ensures _ (omega arith)

pub returns-then-x-ne0-4 : goal.returns-then-x-ne0-4
returns-then-x-ne0-4 c =
    lowest_in _ 3 (λ _. c.if-x-ne0.false) (λ _. c.if-x-ne0-2.false)
    (λ _. c.if-x-ne0-3.false) (λ h. absurd (omega arith)) (omega arith) _ c.lowest_bit-then-x-ne0-4.ensures _ (omega arith)

pub returns-else-x-ne0-4 : goal.returns-else-x-ne0-4
returns-else-x-ne0-4 c =
    lowest_none _ 4 (λ _. c.if-x-ne0.false) (λ _. c.if-x-ne0-2.false)
    (λ _. c.if-x-ne0-3.false) (λ _. c.if-x-ne0-4.false) (omega arith)

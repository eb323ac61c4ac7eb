-- The arms are ranges of kinds.
use mathlib.Core.Path.{refl, sym}
use mathlib.Core.Logic.{inl, inr}
use native.Mathlib.Omega.{arith}
use borrow.Author.Tests.{le-leb, lt-leb}
use Rattle.operands.specs.OperandBounds.{out_letter, out_two, out_one, out_none}
use Rattle.operands.proofs.operands_out.Goals as goal

pub returns-in-2 : goal.returns-in-2
returns-in-2 c = sym (out_letter c.args.kind c.args.first c.args.second c.args.e (omega arith) (omega arith))

pub returns-then-e-first : goal.returns-then-e-first
returns-then-e-first c =
    let args2 = c.args in
    rw (out_two args2.kind args2.first args2.second args2.e (omega arith) (omega arith), le-leb _ _ c.if-e-first.true) refl

pub returns-else-e-first : goal.returns-else-e-first
returns-else-e-first c =
    let args2 = c.args in
    rw (out_two args2.kind args2.first args2.second args2.e (omega arith) (omega arith), lt-leb _ _ c.if-e-first.false) refl

pub returns-in-6 : goal.returns-in-6
returns-in-6 c =
    let args2 = c.args in
    sym (out_one args2.kind args2.first args2.second args2.e (omega arith) (omega arith))

pub returns-in_default : goal.returns-in_default
returns-in_default c = sym (out_none c.args.kind c.args.first c.args.second c.args.e (inl (omega arith)))

pub returns-in_default-2 : goal.returns-in_default-2
returns-in_default-2 c =
    let args2 = c.args in
    sym (out_none args2.kind args2.first args2.second args2.e (inr (omega arith)))

use mathlib.Core.Path.{sym, ◌∙◌}
use native.Mathlib.Omega.{arith}
use lib.ListN.{length}
use Rattle.std.proofs.Common.{le_refl}
use Rattle.sequents.specs.Part.{part_whole, fit_at}
use Rattle.axioms.specs.AxiomParts.{other_on, other_here, other_end}
use Rattle.axioms.proofs.other_member.Goals as goal

pub loop-i-init : goal.loop-i-init
loop-i-init c = rw (part_whole c.args.codes.now) (omega arith)

pub key_of-requires : goal.key_of-requires
key_of-requires c = fit_at c.requires c.loop-i.i (omega arith)

pub returns-then-key_of-one : goal.returns-then-key_of-one
returns-then-key_of-one c =
    let l = c.loop-i in
    let told = other_here c.args.table.now.canon.now c.args.codes.now l.i (length c.args.codes.now) (omega arith) (le_refl _) c.args.one (λ e. c.if-key_of-one.true (c.key_of.ensures.1 ∙ e)) in
    omega (arith, l.invariant, told)

pub loop-i-preserved : goal.loop-i-preserved
loop-i-preserved c =
    let l = c.loop-i in
    let told = other_on c.args.table.now.canon.now c.args.codes.now l.i (length c.args.codes.now) (omega arith) (le_refl _) c.args.one (sym c.key_of.ensures.1 ∙ c.if-key_of-one.false) in
    omega (arith, l.invariant, told)

pub returns : goal.returns
returns c =
    let l = c.loop-i in
    omega (arith, l.invariant, other_end c.args.table.now.canon.now c.args.codes.now l.i (length c.args.codes.now) (omega arith) (le_refl _) c.args.one)

-- by the kind: its operands are met
use mathlib.Core.Path.{◌∙◌}
use native.Mathlib.Omega.{arith}
use Rattle.forming.specs.Claim.{a_entry, b_below}
use Rattle.dependencies.specs.Operands.{few_kinds}
use Rattle.blocks.specs.Growing.{grown_name, grown_one, grown_two}
use Rattle.blocks.proofs.grow.Goals as goal

pub returns-then-kind-eq-NAME : goal.returns-then-kind-eq-NAME
returns-then-kind-eq-NAME c =
    let given = c.requires in
    grown_name c.args.claim.now.is_claim _ given.0 _ _ _ _ c.insert.ensures (omega (arith, c.if-kind-eq-NAME.true))

pub meet-requires : goal.meet-requires
meet-requires c =
    let claim = c.args.claim.now.is_claim in
    let given = c.requires in
    let k = a_entry claim _ given.0 given.1 in
    (omega (arith, k, c.wide.ensures, claim.few), given.3)

pub meet-requires-then-kind-lt-DIAMOND : goal.meet-requires-then-kind-lt-DIAMOND
meet-requires-then-kind-lt-DIAMOND c =
    let claim = c.args.claim.now.is_claim in
    let given = c.requires in
    let k = b_below claim _ given.0 given.1 (omega (arith, c.if-kind-lt-DIAMOND.true)) in
    (omega (arith, k, c.wide-then-kind-lt-DIAMOND.ensures, claim.few, given.0), c.meet.ensures.long ∙ given.3)

pub returns-then-kind-lt-DIAMOND : goal.returns-then-kind-lt-DIAMOND
returns-then-kind-lt-DIAMOND c =
    let given = c.requires in
    let if22 = c.if-kind-lt-DIAMOND.true in
    grown_two c.args.claim.now.is_claim _ given.0 _ _ _ _ c.insert.ensures _ c.wide.ensures given.1 (omega (arith, if22)) _ c.meet.ensures (omega (arith, if22)) _ c.wide-then-kind-lt-DIAMOND.ensures _ c.meet-then-kind-lt-DIAMOND.ensures

pub returns-else-kind-lt-DIAMOND : goal.returns-else-kind-lt-DIAMOND
returns-else-kind-lt-DIAMOND c =
    let claim = c.args.claim.now.is_claim in
    let given = c.requires in
    let n = few_kinds claim _ given.0 c.if-kind-eq-NAME.false in
    grown_one claim _ given.0 _ _ _ _ c.insert.ensures _ c.wide.ensures given.1 n _ c.meet.ensures (omega (arith, c.if-kind-lt-DIAMOND.false))

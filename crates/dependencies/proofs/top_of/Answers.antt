-- each group of kinds by its clause
use native.Mathlib.Omega.{arith}
use Rattle.forming.specs.Claim.{a_entry, b_below}
use Rattle.dependencies.specs.Tops.{top_leaf, top_name, top_two, top_step, top_fix, top_closed}
use Rattle.dependencies.proofs.top_of.Goals as goal

pub returns-then-kind-lt-OR : goal.returns-then-kind-lt-OR
returns-then-kind-lt-OR c =
    top_leaf c.args.claim.now.is_claim _ _ c.requires c.if-kind-lt-OR.true

pub returns-then-kind-eq-NAME : goal.returns-then-kind-eq-NAME
returns-then-kind-eq-NAME c =
    top_name c.args.claim.now.is_claim _ _ c.requires (omega (arith, c.if-kind-eq-NAME.true))

pub bounds-tops-wide : goal.bounds-tops-wide
bounds-tops-wide c =
    let claim = c.args.claim.now.is_claim in
    omega (arith, c.wide.ensures, a_entry claim _ c.requires c.if-kind-lt-OR.false, claim.few)

pub bounds-tops-wide-then-kind-lt-DIAMOND : goal.bounds-tops-wide-then-kind-lt-DIAMOND
bounds-tops-wide-then-kind-lt-DIAMOND c =
    let claim = c.args.claim.now.is_claim in
    omega (arith, c.wide-then-kind-lt-DIAMOND.ensures, c.requires, b_below claim _ c.requires c.if-kind-lt-OR.false c.if-kind-lt-DIAMOND.true, claim.few)

pub returns-then-kind-lt-DIAMOND : goal.returns-then-kind-lt-DIAMOND
returns-then-kind-lt-DIAMOND c =
    top_two c.args.claim.now.is_claim _ _ c.requires _ c.wide.ensures c.if-kind-lt-OR.false c.if-kind-lt-DIAMOND.true _ _ c.wide-then-kind-lt-DIAMOND.ensures c.max.ensures

pub returns-then-kind-lt-MU : goal.returns-then-kind-lt-MU
returns-then-kind-lt-MU c =
    top_step c.args.claim.now.is_claim _ _ c.requires _ c.wide.ensures c.if-kind-lt-DIAMOND.false c.if-kind-lt-MU.true

pub returns-then-e-wide : goal.returns-then-e-wide
returns-then-e-wide c =
    let claim = c.args.claim.now.is_claim in
    let known = claim.known _ c.requires in
    top_fix claim _ _ c.requires _ c.wide.ensures c.if-kind-lt-MU.false (omega (arith, known, c.if-kind-eq-NAME.false)) (omega (arith, c.if-e-wide.true, c.wide-2.ensures))

pub returns-else-e-wide : goal.returns-else-e-wide
returns-else-e-wide c =
    let claim = c.args.claim.now.is_claim in
    let known = claim.known _ c.requires in
    top_closed claim _ _ c.requires _ c.wide.ensures c.if-kind-lt-MU.false (omega (arith, known, c.if-kind-eq-NAME.false)) (omega (arith, c.if-e-wide.false, c.wide-2.ensures))

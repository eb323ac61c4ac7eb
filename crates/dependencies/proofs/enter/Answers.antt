-- by the kind: what it reads is entered
use native.Mathlib.Omega.{arith}
use Rattle.forming.specs.Claim.{a_entry, b_below}
use Rattle.dependencies.specs.Users.{entered_none, entered_one, entered_two}
use Rattle.dependencies.proofs.enter.Goals as goal

pub returns-then-kind-lt-OR : goal.returns-then-kind-lt-OR
returns-then-kind-lt-OR c = entered_none c.args.claim.now.is_claim _ c.requires.0 _ c.if-kind-lt-OR.true

pub insert-requires : goal.insert-requires
insert-requires c =
    let claim = c.args.claim.now.is_claim in
    let given = c.requires in
    let k = a_entry claim _ given.0 (omega (arith, c.if-kind-lt-OR.false)) in
    omega (arith, k, c.wide.ensures, claim.few, given.0, given.1)

pub insert-requires-then-kind-lt-DIAMOND : goal.insert-requires-then-kind-lt-DIAMOND
insert-requires-then-kind-lt-DIAMOND c =
    let claim = c.args.claim.now.is_claim in
    let given = c.requires in
    let k = b_below claim _ given.0 (omega (arith, c.if-kind-lt-OR.false)) (omega (arith, c.if-kind-lt-DIAMOND.true)) in
    omega (arith, k, c.wide-then-kind-lt-DIAMOND.ensures, claim.few, given.0, given.1, c.insert.ensures.long)

pub returns-then-kind-lt-DIAMOND : goal.returns-then-kind-lt-DIAMOND
returns-then-kind-lt-DIAMOND c =
    let given = c.requires in
    entered_two c.args.claim.now.is_claim _ given.0 _ _ _ c.wide.ensures c.insert.ensures _ _ c.wide-then-kind-lt-DIAMOND.ensures c.insert-then-kind-lt-DIAMOND.ensures

pub returns-else-kind-lt-DIAMOND : goal.returns-else-kind-lt-DIAMOND
returns-else-kind-lt-DIAMOND c =
    let given = c.requires in
    entered_one c.args.claim.now.is_claim _ given.0 _ _ _ c.wide.ensures c.insert.ensures (omega (arith, c.if-kind-lt-DIAMOND.false))

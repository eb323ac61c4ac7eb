-- a fixpoint's body is an entry
use native.Mathlib.Omega.{arith}
use Rattle.forming.specs.Claim.{a_entry}
use Rattle.dependencies.proofs.needs_rounds.Goals as goal

pub bounds-prepared-wide : goal.bounds-prepared-wide
bounds-prepared-wide c =
    let claim = c.args.prepared.now.claim.is_claim in
    omega (arith, c.wide.ensures, a_entry claim _ c.requires (grind arith), claim.few)

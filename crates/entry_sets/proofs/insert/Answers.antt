-- one bit more
use native.Mathlib.Omega.{arith}
use lib.ListN.{length-set}
use Rattle.bits.proofs.WordSet.{in_inserted}
use Rattle.entry_sets.proofs.insert.Goals as goal

pub returns : goal.returns
returns c = record { long = length-set c.args.set.now _ _; tells = in_inserted c.args.set.now c.args.k (omega (arith, c.requires)) }

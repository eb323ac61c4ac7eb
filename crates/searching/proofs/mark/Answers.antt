-- one bit more
use native.Mathlib.Omega.{arith}
use Rattle.bits.proofs.WordSet.{in_inserted}
use Rattle.searching.proofs.mark.Goals as goal

pub returns : goal.returns
returns c = in_inserted c.args.marks.now c.args.x (omega (arith, c.requires))

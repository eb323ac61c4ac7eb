-- by either way
use mathlib.Core.Path.{ap, ◌∙◌}
use Prim.Native.Nat.{ℕ}
use native.Mathlib.Omega.{arith}
use lib.ListN.{length, length-replicate}
use Rattle.states.specs.BitLaws.{bit_within}
use Rattle.edges.proofs.sparse_or_dense.Goals as goal

pub row_words-requires : goal.row_words-requires
row_words-requires c =
    λ a h. omega (arith, bit_within 16 c.args.used a c.ranges.used.fits h, ap length c.requires ∙ length-replicate {A = ℕ} 1024 0)

-- four times four digits, moved between each other
use mathlib.Core.Path.{refl}
use Prim.Native.Nat.{◌+◌, ◌*◌}
use native.Mathlib.Omega.{arith}
use Rattle.bits.specs.Bits.{digit, bit}
use Rattle.model_files.specs.DescribedLaws.{cell}
use Rattle.marks.specs.Lanes.{sixteen_folded, one_digit}
use Rattle.marks.proofs.sixteen.Goals as goal

pub returns : goal.returns
returns c =
    let given = c.args in
    sixteen_folded (λ k. digit (cell given.marks.now given.s k) given.a) (λ k. omega arith) given.u
    (λ k. bit (cell given.marks.now given.s k) given.a) (λ k. one_digit (cell given.marks.now given.s k) given.a) _ _
    (λ i. c.four_bits.ensures i + c.four_bits-2.ensures i * 16 + c.four_bits-3.ensures i * 256 + c.four_bits-4.ensures i * 4096)
    refl

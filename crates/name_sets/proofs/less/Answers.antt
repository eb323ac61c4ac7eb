-- In each word `a & !b` is a without what it shares with b.
use Rattle.std.specs.Prelude.{◌≡◌, ℕ, ◌-◌, ◌^◌, ◌<◌}
use Rattle.std.proofs.Common.{ap, ◌∙◌, sym, arith}
use Rattle.std.specs.Int.Bits.{bit_and, bit_xor, and_self, xor_add_and}
use Rattle.std.proofs.lemmas.Nat.{and_assoc, and_comm, and-not}
use Rattle.name_sets.specs.NameSets.{less_marks}
use Rattle.name_sets.proofs.less.Goals as goal

without : (a b : ℕ) → a < 2 ^ 64 → b < 2 ^ 64 → bit_and a (2 ^ 64 - 1 - b) ≡ bit_xor a (bit_and a b)
without a b h k =
    let twice : bit_and a (bit_and a b) ≡ bit_and a b = sym (and_assoc b a a) ∙ ap (λ c. bit_and c b) (and_self a) in
    omega (arith, and_comm a (2 ^ 64 - 1 - b), and-not 64 b a k h, and_comm b a, xor_add_and a (bit_and a b), twice)

pub returns : goal.returns
returns c =
    let x = c.args.x in
    let y = c.args.y in
    rw (
      without x.0 y.0 (omega arith) (omega arith),
      without x.1 y.1 (omega arith) (omega arith),
      without x.2 y.2 (omega arith) (omega arith),
      without x.3 y.3 (omega arith) (omega arith),
    )
    (less_marks x y)

-- none of them, all of them, or the lowest bits
use mathlib.Core.Path.{◌≡◌, sym, ap, ◌∙◌}
use Prim.Native.Nat.{ℕ, ◌+◌, ◌*◌, ◌-◌, ◌%◌, ◌^◌, ◌<◌}
use native.Mathlib.Omega.{arith}
use lib.Dec.{ltb, lit<}
use lib.Pow.{shl_exact}
use borrow.Author.Tests.{lt-ltb, le-ltb}
use native.Mathlib.Decide.{dec_lt}
use Rattle.bits.specs.Bits.{bit, no_bit, ones_bit}
use Rattle.name_sets.proofs.low_word.Goals as goal

in_64 : (m : ℕ) → m < 64 → 1 * 2 ^ m % 2 ^ 64 ≡ 1 * 2 ^ m
in_64 m h = shl_exact 1 m 64 (lit< tt) (omega arith)

as_test : (i k from : ℕ) → Dec (i < k - from) → ltb i (k - from) ≡ ltb (from + i) k
as_test i k from (yes h) = lt-ltb i (k - from) h ∙ sym (lt-ltb (from + i) k (omega arith))
as_test i k from (no h) = le-ltb i (k - from) (omega arith) ∙ sym (le-ltb (from + i) k (omega arith))

pub returns-then-k-from : goal.returns-then-k-from
returns-then-k-from c = λ i h. no_bit i ∙ sym (le-ltb (c.args.from + i) c.args.k (omega (arith, c.if-k-from.true)))

pub returns-then-from-k : goal.returns-then-from-k
returns-then-from-k c = λ i h. ones_bit 64 i ∙ lt-ltb i 64 h ∙ sym (lt-ltb (c.args.from + i) c.args.k (omega (arith, c.if-from-k.true)))

pub returns-else-from-k : goal.returns-else-from-k
returns-else-from-k c = λ i h.
    let k = c.args.k in
    let from = c.args.from in
    ap (λ (w : ℕ). bit (w - 1) i) (in_64 (k - from) (omega (arith, c.if-from-k.false)) ∙ omega arith) ∙ ones_bit (k - from) i ∙ as_test i k from (dec_lt i (k - from))

-- below 2 ^ n all bits; 64 states fill the word
use mathlib.Core.Path.{◌≡◌}
use Prim.Native.Nat.{ℕ, ◌*◌, ◌%◌, ◌^◌, ◌<◌}
use native.Mathlib.Omega.{arith}
use lib.Dec.{lit<}
use lib.Pow.{pow_pos, shl_exact}
use Rattle.states.specs.TopDown.{full_word}
use Rattle.letters.proofs.all_states.Goals as goal

bits : (n : ℕ) → n < 64 → 1 * 2 ^ n % 2 ^ 64 ≡ 1 * 2 ^ n
bits n h = shl_exact 1 n 64 (lit< tt) (omega arith)

pub overflow_sub-result : goal.overflow_sub-result
overflow_sub-result c = omega (arith, bits c.args.n (omega arith), pow_pos c.args.n)

pub returns-then-n-lt64 : goal.returns-then-n-lt64
returns-then-n-lt64 c = omega (arith, bits c.args.n (omega arith), full_word c.args.n)

pub returns-else-n-lt64 : goal.returns-else-n-lt64
returns-else-n-lt64 c =
    let all : c.args.n ≡ 64 = omega arith in
    rw all (omega (arith, full_word 64))

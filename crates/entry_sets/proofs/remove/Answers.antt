-- one bit less, in the number's word
use native.Mathlib.Omega.{arith}
use Rattle.entry_sets.specs.Sets.{removed_at}
use Rattle.entry_sets.proofs.remove.Goals as goal

pub returns-then-k-lt64 : goal.returns-then-k-lt64
returns-then-k-lt64 c = removed_at _ 0 _ c.requires.1 (omega arith) (omega (arith, c.requires.0, c.if-k-lt64.true)) _ c.cleared.ensures

pub returns-then-k-lt128 : goal.returns-then-k-lt128
returns-then-k-lt128 c = removed_at _ 1 _ c.requires.1 (omega arith) (omega (arith, c.requires.0, c.if-k-lt128.true, c.if-k-lt64.false)) _ c.cleared-then-k-lt128.ensures

pub returns-then-k-lt192 : goal.returns-then-k-lt192
returns-then-k-lt192 c = removed_at _ 2 _ c.requires.1 (omega arith) (omega (arith, c.requires.0, c.if-k-lt192.true, c.if-k-lt64.false, c.if-k-lt128.false)) _ c.cleared-then-k-lt192.ensures

pub returns-else-k-lt192 : goal.returns-else-k-lt192
returns-else-k-lt192 c = removed_at _ 3 _ c.requires.1 (omega arith) (omega (arith, c.requires.0, c.if-k-lt64.false, c.if-k-lt128.false, c.if-k-lt192.false)) _ c.cleared-else-k-lt192.ensures

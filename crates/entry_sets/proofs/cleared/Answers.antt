-- what is taken away is the bit, where it is there
use Rattle.std.specs.Prelude.{◌≡◌, ℕ, ◌-◌, ◌<◌, ◌^◌}
use Rattle.std.specs.Int.Bits.{bit_and, bit_xor, and_self, xor_add_and}
use Rattle.std.proofs.Common.{ap, sym, ◌∙◌, arith}
use Rattle.std.proofs.lemmas.Nat.{and_comm, and_assoc, and-not}
use Rattle.entry_sets.proofs.cleared.Goals as goal

apart : (w m : ℕ) → w < 2 ^ 64 → m < 2 ^ 64 → bit_and w (18446744073709551615 - m) ≡ bit_xor w (bit_and w m)
apart w m h k =
    let twice : bit_and w (bit_and w m) ≡ bit_and w m = sym (and_assoc m w w) ∙ ap (λ (x : ℕ). bit_and x m) (and_self w) in
    omega (arith, and_comm w (18446744073709551615 - m), and-not 64 m w k h, and_comm m w, xor_add_and w (bit_and w m), twice)

pub returns : goal.returns
returns c = apart c.args.word _ (omega arith) (omega arith)

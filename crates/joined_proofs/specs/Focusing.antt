-- members stored as codes in focus, one after the other
use Rattle.std.specs.Prelude.{◌≡◌, get_or, drop}
use Rattle.std.proofs.Math.Path.{refl, ap}
use Rattle.std.proofs.Common.{sym, subst, ◌∙◌, take-suc, take_at}
use mathlib.Core.List.{List, [], ◌∷◌, ◌++◌}
use Prim.Native.Nat.{ℕ, suc, ◌+◌, ◌-◌, ◌<◌}
use native.Mathlib.Omega.{arith}
use Rattle.std.proofs.Math.ListN.{length, take, set}
use Rattle.std.proofs.Math.Seq.{length-take-le}
use Rattle.verdict.specs.Lists.{written}
use Rattle.verdict.specs.Sets.{elements}
use Rattle.verdict.specs.Tests.{each}
use Rattle.verdict.specs.WrittenLaws.{written_more, written_length}
use Rattle.formula.specs.Rule
use Rattle.formula.specs.Codes.{code}
use Rattle.sequents.specs.Part.{part_member}
use Rattle.laying.specs.Laying.{node_at}
use Rattle.joining.specs.GoalLaws.{focus_length}
use Rattle.joining.specs.Joined.{in_focus, joined_root}
use Rattle.joined_proofs.specs.Laid.{Members}

focus_append : (l m : List ℕ) → in_focus (l ++ m) ≡ in_focus l ++ in_focus m
unfolding each
focus_append [] m = refl
focus_append (x ∷ l) m = ap (λ (r : List ℕ). code x 1 ∷ r) (focus_append l m)

module _ (ms old : List ℕ) where
  pub none_focused : old ≡ written (in_focus (take 0 ms)) old
  unfolding each
  none_focused = refl

  -- the first i stand there already
  pub more_focused : (i : ℕ) → i < length ms → i < length old
      → set (written (in_focus (take i ms)) old) i (code (get_or ms i 0) 1) ≡ written (in_focus (take (i + 1) ms)) old
  unfolding each
  more_focused i h room =
      let many : length (in_focus (take i ms)) ≡ i = focus_length (take i ms) ∙ length-take-le i ms (omega arith) in
      let next : suc i ≡ i + 1 = omega arith in
      ap (λ (k : ℕ). set (written (in_focus (take i ms)) old) k (code (get_or ms i 0) 1)) (sym many)
      ∙ written_more (in_focus (take i ms)) old (code (get_or ms i 0) 1) (omega (arith, many))
      ∙ ap (λ (l : List ℕ). written l old) (sym (focus_append (take i ms) (get_or ms i 0 ∷ [])))
      ∙ ap (λ (l : List ℕ). written (in_focus l) old) (sym (take-suc ms i 0 h) ∙ ap (λ (k : ℕ). take k ms) next)

-- a member at a place in front is an entry
pub member_small : {ms : List ℕ} {n i : ℕ} → Members ms n → i < n → get_or ms i 0 < 256
member_small {ms} {n} {i} given h =
    let whole : n - 0 ≡ n = omega arith in
    let here = part_member ms 0 n i (omega arith) h (omega (arith, given.long, given.few)) in
    given.small _ (subst (λ (k : ℕ). elements (take k ms) (get_or ms i 0)) whole here)

-- all of them over an array: it stays as long, and they are read at its front again
module _ {ms : List ℕ} {n : ℕ} (given : Members ms n) (old : List ℕ) {codes : List ℕ} (focused : codes ≡ written (in_focus (take n ms)) old) where
  many : length (in_focus (take n ms)) ≡ n
  many = focus_length (take n ms) ∙ length-take-le n ms (omega (arith, given.few, given.long))

  pub focused_long : length old ≡ 24 → length codes ≡ 24
  focused_long h = ap length focused ∙ written_length (in_focus (take n ms)) old (omega (arith, many, given.few)) ∙ h

  front : take n (drop 0 codes) ≡ in_focus (take n ms)
  front = ap (take n) focused ∙ take_at (in_focus (take n ms)) (drop (length (in_focus (take n ms))) old) n many

  -- the new root by its links and its codes
  pub root_node : (e k : ℕ) {c : ℕ} → c ≡ code e 1 → node_at Rule.AND (c ∷ 1 ∷ (k + 1) ∷ 0 ∷ []) 0 codes 0 n ≡ joined_root e (take n ms) k
  root_node e k h = rw (front, h) refl

-- the joined nodes: what stands where, and which child edges there are
use Rattle.std.specs.Prelude.{◌≡◌, Bool, true, false, List, ℕ, ◌+◌, ◌-◌, ◌<◌, length}
use Rattle.std.proofs.Common.{arith, length-append}
use Rattle.std.proofs.Math.Decide.{ℕ_discrete, dec_lt}
use Rattle.std.proofs.lemmas.List.{length-map}
use Rattle.formula.specs.Nodes.{Proof}
use Rattle.calculus.specs.Tree.{Child, is_second}
use Rattle.joining.specs.Shift.{shift, shifted}
use Rattle.joining.specs.Joined.{joined_nodes}

module _ (e : ℕ) (ms : List ℕ) (p r : Proof) where
  abbrev pub both : Proof
  both = joined_nodes e ms p r

  pub both-length : length both ≡ length p + length r + 1
  both-length = omega (arith, length-append (shifted 1 p) (shifted (length p + 1) r), length-map p (shift 1), length-map r (shift (length p + 1)))

  -- where a node comes from
  pub data Part (x : ℕ) : Type 0 where
    new : x ≡ 0 → Part x
    of_first : (v : ℕ) → v < length p → x ≡ v + 1 → Part x
    of_second : (v : ℕ) → v < length r → x ≡ v + (length p + 1) → Part x

  pub part : (x : ℕ) → x < length both → Part x
  part x h = go (ℕ_discrete x 0) (dec_lt x (length p + 1))
    where
      go : Dec (x ≡ 0) → Dec (x < length p + 1) → Part x
      go (yes i) _ = new i
      go (no n) (yes l) = of_first (x - 1) (omega arith) (omega arith)
      go (no n) (no l) = of_second (x - (length p + 1)) (omega (arith, both-length)) (omega arith)

  -- the child edges, each with the field that names the child
  pub data Edge (u w : ℕ) (s : Bool) : Type 0 where
    to_first : u ≡ 0 → w ≡ 1 → s ≡ false → Edge u w s
    to_second : u ≡ 0 → w ≡ length p + 1 → s ≡ true → Edge u w s
    in_first : {v x : ℕ} (c : Child p v x) → u ≡ v + 1 → w ≡ x + 1 → s ≡ is_second p c → Edge u w s
    in_second : {v x : ℕ} (c : Child r v x) → u ≡ v + (length p + 1) → w ≡ x + (length p + 1) → s ≡ is_second r c → Edge u w s

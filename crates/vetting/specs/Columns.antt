-- the nodes of records in columns are the node table of the same columns, with starts that the code counts sum up to
use Rattle.std.specs.Prelude.{◌≡◌, List, take, drop}
use Rattle.std.proofs.Math.Path.{refl}
use Rattle.std.proofs.Common.{ap, ◌∙◌, drop-drop}
use Prim.Native.Nat.{ℕ, zero, suc, ◌+◌, ◌-◌, ◌<◌, ◌≤◌}
use native.Mathlib.Omega.{arith}
use Rattle.std.proofs.Math.ListN.{get_or}
use Rattle.verdict.specs.Lists.{values_from, values_from_at}
use Rattle.formula.specs.PlainNodes.{codes_at_lem, plain_node, proof_of}
use Rattle.writing.specs.ProofEnds.{nodes_over}
use Rattle.writing.specs.Held.{plain_record, records_of}

-- how many codes stand before node v
unfoldable pub before : List ℕ → ℕ → ℕ
before ns zero = 0
before ns (suc v) = before ns v + get_or ns v 0

abbrev pub starts : List ℕ → ℕ → List ℕ
starts ns n = values_from (before ns) 0 (suc n)

module _ (rs ls ns cs : List ℕ) (n : ℕ) where
  start_at : (v : ℕ) → v ≤ n → get_or (starts ns n) v 0 ≡ before ns v
  start_at v h = values_from_at (before ns) 0 0 (suc n) v (omega arith) ∙ ap (before ns) {x = 0 + v} {y = v} (omega arith)

  codes_at : (v : ℕ) → v < n → take (get_or ns v 0) (drop (before ns v) cs) ≡ codes_at_lem (starts ns n) cs v
  unfolding before
  codes_at v h =
      let i : v + 1 ≡ suc v = omega arith in
      let e : before ns v + get_or ns v 0 - before ns v ≡ get_or ns v 0 = omega arith in
      rw (i, start_at (suc v) (omega arith), start_at v (omega arith), e) refl

  nodes_from : (v k : ℕ) → v + k ≤ n → nodes_over (values_from (plain_record rs ls ns) v k) (drop (before ns v) cs) ≡ values_from (plain_node rs ls (starts ns n) cs) v k
  unfolding values_from nodes_over before
  nodes_from v zero h = refl
  nodes_from v (suc k) h = rw (drop-drop (get_or ns v 0) (before ns v) cs, codes_at v (omega arith), nodes_from (suc v) k (omega arith)) refl

  pub nodes_of_columns : nodes_over (records_of rs ls ns n) cs ≡ proof_of rs ls (starts ns n) cs n
  unfolding before proof_of
  nodes_of_columns = nodes_from 0 n (omega arith)

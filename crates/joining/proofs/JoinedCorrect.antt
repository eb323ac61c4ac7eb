-- the joined proof keeps every rule, and proves the joined claim
use Rattle.std.specs.Prelude.{◌≡◌, List, [], ◌∷◌, ℕ, ◌+◌, ◌<◌, length}
use Rattle.std.proofs.Math.Path.{sym}
use Rattle.std.proofs.Common.{ap, ◌∙◌, arith}
use Rattle.verdict.specs.SetTells.{lists_each}
use Rattle.formula.specs.Rule
use Rattle.formula.specs.Table.{Table}
use Rattle.formula.specs.Codes.{Formula, code, entry_of_lem, code_entry}
use Rattle.formula.specs.Nodes.{Proof, node}
use Rattle.calculus.specs.Tree.{Trees}
use Rattle.calculus.specs.Paths.{Path}
use Rattle.calculus.specs.Sequents.{rule, listed}
use Rattle.calculus.specs.Rules.{Keeps}
use Rattle.calculus.specs.Loops.{GoodLoop}
use Rattle.calculus.specs.CorrectNodes.{CorrectNodes}
use Rattle.calculus.specs.Goals.{Claimed}
use Rattle.calculus.specs.JudgeExact.{keeps_back}
use Rattle.joining.specs.Goals.{joined_goal}
use Rattle.joining.specs.GoalLaws.{joined_members, fit_formula}
use Rattle.joining.specs.Joined.{one_goal, one_tree, joined_proof}
use Rattle.joining.specs.Sits.{Sits, rule_at, codes_at}
use Rattle.joining.proofs.SitsKeeps.{keeps_down, loop_down}
use Rattle.joining.specs.JoinedTree.{Part, new, of_first, of_second, part}
use Rattle.joining.proofs.JoinedTree.{left, right, both_tree}
use Rattle.joining.specs.JoinedRoot.{joined_claimed}
use Rattle.joining.proofs.JoinedRoot.{joined_root}
use Rattle.joining.specs.JoinedCorrect.{Halves}

module _ {t : Table} {e : ℕ} {l r : List ℕ} {p q : Proof} (H : Halves t e l r p q) where
  abbrev ms : List ℕ
  ms = joined_goal t e l r

  abbrev both : Proof
  both = joined_proof t e l r p q

  tree : Trees (0 ∷ []) both
  tree = both_tree e ms p q H.first_correct.tree H.second_correct.tree H.first_some H.second_some

  -- a condition on nodes: of the new root, and what of each half's nodes it has where they stand now
  by_part : (P : ℕ → Type 0) → P 0
      → ((v : ℕ) → v < length p → P (v + 1))
      → ((v : ℕ) → v < length q → P (v + (length p + 1)))
      → (x : ℕ) → x < length both → P x
  by_part P a f g x h = go (part e ms p q x h)
    where
      go : Part e ms p q x → P x
      go (new i) = rw i a
      go (of_first v k i) = rw i (f v k)
      go (of_second v k i) = rw i (g v k)

  listed_down : {d : ℕ} {s : Proof} → Sits d s both → ((v c : ℕ) → v < length s → listed s v c → Formula t (entry_of_lem c))
      → (v : ℕ) → v < length s → (c : ℕ) → listed both (v + d) c → Formula t (entry_of_lem c)
  listed_down S F v h c m = F v c h (rw (codes_at S v h) at m)

  root_members : (c : ℕ) → listed both 0 c → Formula t (entry_of_lem c)
  root_members c m =
      let (f, n, i) = (lists_each (λ e. code e 1) ms).into c m in
      let j : entry_of_lem c ≡ f = ap entry_of_lem i ∙ code_entry f 1 (omega arith) in
      rw j (joined_members t e l r H.first_members (fit_formula t H.fit) f n)

  Good : ℕ → Type 0
  Good x = rule both x ≡ Rule.BACK → (π : Path both (node both x).back x) → GoodLoop both (node both x).back x π

  loops_down : {d : ℕ} {s : Proof} {m : List ℕ} → Sits d s both → CorrectNodes (one_goal t m) (one_tree s) → (v : ℕ) → v < length s → Good (v + d)
  unfolding Good
  loops_down S C v h b = let k = sym (rule_at S v h) ∙ b in loop_down S C.tree.forest tree.forest C.loops v h k (keeps_back k (C.keeps v h))

  -- T-07: the whole must be accepted
  pub joined_correct : CorrectNodes (one_goal t ms) (one_tree both) × Claimed (one_goal t ms) (one_tree both)
  unfolding Good
  joined_correct = (
    record {
      members = λ v c h. by_part (λ x. (c : ℕ) → listed both x c → Formula t (entry_of_lem c)) root_members
          (listed_down (left e ms p q) H.first_correct.members)
          (listed_down (right e ms p q) H.second_correct.members)
          v
          h
          c;
      tree = tree;
      keeps = by_part (Keeps (one_goal t ms) (one_tree both))
          (joined_root t e l r p q H.first_claimed H.second_claimed H.first_some H.second_some H.fit)
          (λ v h. keeps_down (left e ms p q) H.first_correct.tree.forest v h (H.first_correct.keeps v h))
          (λ v h. keeps_down (right e ms p q) H.second_correct.tree.forest v h (H.second_correct.keeps v h));
      loops = by_part Good (λ b. absurd (omega arith))
          (loops_down (left e ms p q) H.first_correct)
          (loops_down (right e ms p q) H.second_correct);
    },
    joined_claimed t e l r p q,
  )

-- a proof that sits in another keeps its rules there, and its loops stay good
use Rattle.std.specs.Prelude.{◌≡◌, refl, List, ℕ, ◌+◌, ◌<◌, ◌≤◌, length}
use Rattle.std.proofs.Common.{sym, ap, ◌∙◌, arith}
use Rattle.formula.specs.Rule
use Rattle.formula.specs.Table.{Table}
use Rattle.formula.specs.Nodes.{Proof, node}
use Rattle.calculus.specs.Tree.{first, second, Forest}
use Rattle.calculus.specs.Paths.{Path, down, on_below, ancestor_below}
use Rattle.calculus.specs.Sequents.{rule, Belongs}
use Rattle.calculus.specs.Rules.{Principal, Clash, Truth, Step, BackLeaf, Keeps, ax1, ax2, or, and, box, mu, nu, weaken, into_focus, out_of_focus, discharge, back, by_children, by_tree}
use Rattle.calculus.specs.Loops.{OnLoop, GoodLoop, GoodLoops, good_walk}
use Rattle.joining.specs.Joined.{one_goal, one_tree}
use Rattle.joining.specs.Sits.{Sits, rule_at, principal_at, codes_at, first-at, second_at, back_at}
use Rattle.joining.proofs.Sits.{path_down, on_up, on_down, ancestor_down}

module _ {d : ℕ} {p q : Proof} (S : Sits d p q) (T : Forest p) where
  module _ (v : ℕ) (h : v < length p) where
    first_codes : Rule.OR ≤ rule p v → rule p v ≤ Rule.D → (node q (node q (v + d)).first).codes ≡ (node p (node p v).first).codes
    first_codes a b = ap (λ (n : ℕ). (node q n).codes) (first-at S v h a b) ∙ codes_at S (node p v).first (T.inside (first h a b refl))

    second_codes : rule p v ≡ Rule.AND → (node q (node q (v + d)).second).codes ≡ (node p (node p v).second).codes
    second_codes a = ap (λ (n : ℕ). (node q n).codes) (second_at S v h a) ∙ codes_at S (node p v).second (T.inside (second h a refl))

    belongs_down : {t : Table} → Belongs t p v → Belongs t q (v + d)
    belongs_down b = record { formula = rw (principal_at S v h) b.formula; inside = rw (principal_at S v h, codes_at S v h) b.inside }

    -- whichever goals the two claims have: the rules look at the table alone
    module _ {t : Table} {l m : List ℕ} where
      principal_down : {k : ℕ} → Principal (one_goal t l) (one_tree p) v k → Principal (one_goal t m) (one_tree q) (v + d) k
      principal_down P = record { belongs = belongs_down P.belongs; of_kind = rw (principal_at S v h) P.of_kind }

      clash_down : Clash (one_goal t l) (one_tree p) v → Clash (one_goal t m) (one_tree q) (v + d)
      clash_down k = record {
        plain = k.plain;
        negated = k.negated;
        plain_kind = k.plain_kind;
        negated_kind = k.negated_kind;
        one_letter = k.one_letter;
        exactly = rw (codes_at S v h) k.exactly;
      }

      truth_down : Truth (one_goal t l) (one_tree p) v → Truth (one_goal t m) (one_tree q) (v + d)
      truth_down k = record { only = k.only; of_kind = k.of_kind; exactly = rw (codes_at S v h) k.exactly }

      back_down : rule p v ≡ Rule.BACK → BackLeaf (one_goal t l) (one_tree p) v → BackLeaf (one_goal t m) (one_tree q) (v + d)
      back_down r k =
          let inside : (node p v).back < length p = omega (arith, ancestor_below T k.companion) in
          record {
            companion = rw (back_at S v h r) (ancestor_down S k.companion);
            companion_rule = rw (back_at S v h r) (rule_at S (node p v).back inside ∙ k.companion_rule);
            same = rw (back_at S v h r, codes_at S v h, codes_at S (node p v).back inside) k.same;
          }

      step_down : Step (one_goal t l) (one_tree p) v → Step (one_goal t m) (one_tree q) (v + d)
      step_down (ax1 r k) = ax1 (rule_at S v h ∙ r) (clash_down k)
      step_down (ax2 r k) = ax2 (rule_at S v h ∙ r) (truth_down k)
      step_down (or r P s) = or (rule_at S v h ∙ r) (principal_down P)
          (rw (first_codes (omega arith) (omega arith), codes_at S v h, principal_at S v h) s)
      step_down (and r P s u) = and (rule_at S v h ∙ r) (principal_down P)
          (rw (first_codes (omega arith) (omega arith), codes_at S v h, principal_at S v h) s)
          (rw (second_codes r, codes_at S v h, principal_at S v h) u)
      step_down (box r P o s) = box (rule_at S v h ∙ r) (principal_down P)
          (rw (codes_at S v h, principal_at S v h) o)
          (rw (first_codes (omega arith) (omega arith), codes_at S v h) s)
      step_down (mu r P s) = mu (rule_at S v h ∙ r) (principal_down P)
          (rw (first_codes (omega arith) (omega arith), codes_at S v h, principal_at S v h) s)
      step_down (nu r P s) = nu (rule_at S v h ∙ r) (principal_down P)
          (rw (first_codes (omega arith) (omega arith), codes_at S v h, principal_at S v h) s)
      step_down (weaken r b s) = weaken (rule_at S v h ∙ r) (belongs_down b)
          (rw (first_codes (omega arith) (omega arith), codes_at S v h, principal_at S v h) s)
      step_down (into_focus r b f s) = into_focus (rule_at S v h ∙ r) (belongs_down b)
          (rw (principal_at S v h) f)
          (rw (first_codes (omega arith) (omega arith), codes_at S v h, principal_at S v h) s)
      step_down (out_of_focus r b f s) = out_of_focus (rule_at S v h ∙ r) (belongs_down b)
          (rw (principal_at S v h) f)
          (rw (first_codes (omega arith) (omega arith), codes_at S v h, principal_at S v h) s)
      step_down (discharge r s) = discharge (rule_at S v h ∙ r) (rw (first_codes (omega arith) (omega arith), codes_at S v h) s)

      pub keeps_down : Keeps (one_goal t l) (one_tree p) v → Keeps (one_goal t m) (one_tree q) (v + d)
      keeps_down (by_children s) = by_children (step_down s)
      keeps_down (by_tree (back r k)) = by_tree (back (rule_at S v h ∙ r) (back_down r k))

  on_loop_down : (v : ℕ) → v < length p → OnLoop p v → OnLoop q (v + d)
  on_loop_down v h o = record {
    has_focus = rw (codes_at S v h) o.has_focus;
    not_F = λ e. o.not_F (sym (rule_at S v h) ∙ e);
  }

  walk_down : {c l : ℕ} (π : Path p c l) → l < length p → GoodLoop p c l π → GoodLoop q (c + d) (l + d) (path_down S π)
  walk_down π h g =
      let (x, o, b) = g.some_box in
      record {
        each = λ y n. let (z, m, e) = on_up S π y n in rw e (on_loop_down z (omega (arith, on_below T π z m)) (g.each z m));
        some_box = (x + d, on_down S π x o, rule_at S x (omega (arith, on_below T π x o)) ∙ b);
      }

  -- one walk is enough: that of the leaf's own proof
  pub loop_down : {t : Table} {m : List ℕ} → Forest q → GoodLoops p → (l : ℕ) → l < length p → rule p l ≡ Rule.BACK → BackLeaf (one_goal t m) (one_tree p) l
      → (ρ : Path q (node q (l + d)).back (l + d)) → GoodLoop q (node q (l + d)).back (l + d) ρ
  loop_down W G l h r k =
      let a = k.companion in
      let π : Path p (node p l).back l = down a.above a.edge in
      rw (back_at S l h r) (λ (ρ : Path q ((node p l).back + d) (l + d)). good_walk W (path_down S π) (walk_down π h (G l h r π)) ρ)

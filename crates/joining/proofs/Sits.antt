-- where a proof sits in another, children, paths and loops go along
use Rattle.std.specs.Prelude.{◌≡◌, ℕ, ◌+◌, ◌<◌, ◌≤◌, length}
use Rattle.std.proofs.Math.Path.{refl, sym, ap}
use Rattle.std.proofs.Common.{◌∙◌, inl, inr, arith}
use Rattle.formula.specs.Rule
use Rattle.formula.specs.Nodes.{Proof, node}
use Rattle.calculus.specs.Tree.{Child, first, second, is_second}
use Rattle.calculus.specs.Paths.{Path, stop, down, Ancestor, On}
use Rattle.calculus.specs.Sequents.{rule}
use Rattle.joining.specs.Sits.{Sits, Up, first-at, rule_at, second_at}

module _ {d : ℕ} {p q : Proof} (S : Sits d p q) where
  pub child_down : {v w : ℕ} → Child p v w → Child q (v + d) (w + d)
  child_down {v} {w} (first h a b e) = first (omega (arith, S.room)) (rw (rule_at S v h) a) (rw (rule_at S v h) b) (first-at S v h a b ∙ ap (λ (n : ℕ). n + d) e)
  child_down {v} {w} (second h a e) = second (omega (arith, S.room)) (rule_at S v h ∙ a) (second_at S v h a ∙ ap (λ (n : ℕ). n + d) e)

  pub child_up : {u w : ℕ} (v : ℕ) → u ≡ v + d → v < length p → (c : Child q u w) → Up S v w (is_second q c)
  unfolding is_second
  child_up {u} {w} v i h (first _ a b e) =
      let k : rule q u ≡ rule p v = ap (rule q) i ∙ rule_at S v h in
      let f : rule p v ≤ Rule.D = rw k at b in
      let g : Rule.OR ≤ rule p v = rw k at a in
      record { child = (node p v).first; edge = first h g f refl; number = sym e ∙ ap (λ (n : ℕ). (node q n).first) i ∙ first-at S v h g f; field = refl }
  child_up {u} {w} v i h (second _ a e) =
      let k : rule p v ≡ Rule.AND = sym (ap (rule q) i ∙ rule_at S v h) ∙ a in
      record { child = (node p v).second; edge = second h k refl; number = sym e ∙ ap (λ (n : ℕ). (node q n).second) i ∙ second_at S v h k; field = refl }

  abbrev pub path_down : {u w : ℕ} → Path p u w → Path q (u + d) (w + d)
  path_down stop = stop
  path_down (down π c) = down (path_down π) (child_down c)

  pub on_up : {u w : ℕ} (π : Path p u w) (x : ℕ) → On (path_down π) x → (y : ℕ) × On π y × (x ≡ y + d)
  on_up {u} stop x o = (u, refl, o)
  on_up (down π c) x (inl o) = let (y, n, e) = on_up π x o in (y, inl n, e)
  on_up (down {w = w} π c) x (inr e) = (w, inr refl, e)

  pub on_down : {u w : ℕ} (π : Path p u w) (y : ℕ) → On π y → On (path_down π) (y + d)
  on_down stop y o = ap (λ (n : ℕ). n + d) o
  on_down (down π c) y (inl o) = inl (on_down π y o)
  on_down (down π c) y (inr e) = inr (ap (λ (n : ℕ). n + d) e)

  pub ancestor_down : {u w : ℕ} → Ancestor p u w → Ancestor q (u + d) (w + d)
  ancestor_down a = record { parent = a.parent + d; above = path_down a.above; edge = child_down a.edge }

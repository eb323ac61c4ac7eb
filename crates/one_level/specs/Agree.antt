-- two sets that agree below a number, as the program tests it, and what that says of marks by place
use Rattle.std.specs.Prelude.{◌≡◌, refl, Bool, true, false, not, ◌&&◌, List, ℕ, ◌<◌, ◌≤◌, length, get_or, take, ltb}
use Rattle.std.proofs.Common.{sym, ap, ◌∙◌, true≢false, arith, ext_get_or, get_or-take, length-take-le, lt-ltb, ltb-true}
use Rattle.std.proofs.lemmas.Bool.{false≢true}
use Rattle.name_sets.specs.NameSets.{holds, Marks, Shared}
use Rattle.name_sets.specs.Ordered.{Bits}
use Rattle.name_sets.specs.declared.Names.{Names}
use Rattle.numbering.specs.Only.{marks, length_marks, take_marks}

-- the same of the numbers below k
abbrev pub Agree : Names → Names → ℕ → Type 0
Agree r s k = (i : ℕ) → i < k → holds r i ≡ holds s i

-- the same of the numbers in a third set
abbrev pub Alike : Names → Names → Names → Type 0
Alike r s among = (i : ℕ) → i < 256 → holds among i ≡ true → holds r i ≡ holds s i

module _ (r s low : Names) (k : ℕ) (small : k ≤ 256) (L : Marks low (λ i. ltb i k)) where
  pub alike_agree : Alike r s low → Agree r s k
  alike_agree q i b = q i (omega arith) (L i (omega arith) ∙ lt-ltb i k b)

  pub agree_alike : Agree r s k → Alike r s low
  agree_alike q i b t = q i (ltb-true i k (sym (L i b) ∙ t))

-- nothing in one and not in the other
split : (a b : Bool) → ((a && not b) ≡ true → ⊥) → ((b && not a) ≡ true → ⊥) → a ≡ b
split true true f g = refl
split true false f g = absurd (f refl)
split false true f g = absurd (g refl)
split false false f g = refl

odd : (a b : Bool) → (a && not b) ≡ true → a ≡ b → ⊥
odd true true q z = false≢true q
odd true false q z = true≢false z
odd false b q z = false≢true q

module _ (x y among d : Names) (D : Marks d (λ n. holds x n && not (holds y n))) where
  pub alike_not : Shared d among → Alike x y among → ⊥
  alike_not (i, h, q, t) f = odd (holds x i) (holds y i) (sym (D i h) ∙ q) (f i h t)

  pub alike_both : (c : Names) → Marks c (λ n. holds y n && not (holds x n)) → (Shared d among → ⊥) → (Shared c among → ⊥) → Alike x y among
  alike_both c C f g i h t = split (holds x i) (holds y i) (λ q. f (i, h, D i h ∙ q, t)) (λ q. g (i, h, C i h ∙ q, t))

-- sets that have the marks of two lists agree below k where the first k marks are the same
module _ (r s : Names) (q g : ℕ → Bool) (l m : List ℕ) (k : ℕ) (small : k ≤ 256) (long : k ≤ length l) (wide : k ≤ length m)
    (R : Bits r (marks q l)) (S : Bits s (marks g m)) where
  pub agree_says : Agree r s k → marks q (take k l) ≡ marks g (take k m)
  agree_says h =
      take_marks q k l ∙ ext_get_or false (take k (marks q l)) (take k (marks g m)) (left ∙ sym right) (λ i b. same i (omega (arith, left, b)))
      ∙ sym (take_marks g k m)
    where
      left : length (take k (marks q l)) ≡ k
      left = length-take-le k (marks q l) (omega (arith, length_marks q l))

      right : length (take k (marks g m)) ≡ k
      right = length-take-le k (marks g m) (omega (arith, length_marks g m))

      same : (i : ℕ) → i < k → get_or (take k (marks q l)) i false ≡ get_or (take k (marks g m)) i false
      same i b =
          get_or-take k (marks q l) i false b ∙ sym (R i (omega arith)) ∙ h i b ∙ S i (omega arith)
          ∙ sym (get_or-take k (marks g m) i false b)

  pub agree_holds : marks q (take k l) ≡ marks g (take k m) → Agree r s k
  agree_holds h i b =
      R i (omega arith) ∙ sym (get_or-take k (marks q l) i false b)
      ∙ ap (λ (w : List Bool). get_or w i false) (sym (take_marks q k l) ∙ h ∙ take_marks g k m)
      ∙ get_or-take k (marks g m) i false b ∙ sym (S i (omega arith))

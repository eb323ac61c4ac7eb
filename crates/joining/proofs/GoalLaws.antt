-- the rest of two goals has the formulas of both without those of the entry's
use Rattle.std.specs.Prelude.{refl, Bool, ℕ}
use Rattle.std.proofs.Common.{sym}
use Rattle.std.proofs.Math.Path.{subst}
use mathlib.Core.List.Memᴰ
use mathlib.Core.List.{List, [], ◌∷◌}
use Rattle.std.proofs.Math.Bool.{true, false}
use Rattle.verdict.specs.Sets.{elements}
use Rattle.verdict.specs.Tests.{keep}
use Rattle.verdict.specs.Tells.{Tells, fails}
use Rattle.verdict.specs.SetTells.{Lists}
use Rattle.formula.specs.Table.{Table}
use Rattle.written.specs.Written.{written}
use Rattle.joining.specs.Goals.{sift, Members, formulas, holds, rest}
use Rattle.joining.specs.GoalLaws.{holds-tells}

module _ (t : Table) where
  -- the members of the first goal whose formula the second holds too
  pub rest_lists : (l r : List ℕ) → Members t l → Members t r → Lists (rest t l r) (λ e. elements l e × formulas t r (written t e))
  unfolding rest sift
  rest_lists [] r L R = record { into = λ c m. absurd (Memᴰ.not-nil m); from = λ c (m, _). m }
  rest_lists (x ∷ l) r L R = go (holds t r x) (holds-tells t r R x (L x (Memᴰ.head refl))) (rest_lists l r (λ e m. L e (Memᴰ.tail m)) R)
    where
      go : (b : Bool) → Tells b (formulas t r (written t x)) → Lists (rest t l r) (λ e. elements l e × formulas t r (written t e))
          → Lists (keep b x (rest t l r)) (λ e. elements (x ∷ l) e × formulas t r (written t e))
      go true z s = record { into = into; from = from }
        where
          into : (c : ℕ) → elements (x ∷ rest t l r) c → elements (x ∷ l) c × formulas t r (written t c)
          into c (Memᴰ.head i) = (Memᴰ.head i, subst (λ (k : ℕ). formulas t r (written t k)) (sym i) (z.says refl))
          into c (Memᴰ.tail m) = let (n, h) = s.into c m in (Memᴰ.tail n, h)

          from : (c : ℕ) → elements (x ∷ l) c × formulas t r (written t c) → elements (x ∷ rest t l r) c
          from c (Memᴰ.head i, h) = Memᴰ.head i
          from c (Memᴰ.tail m, h) = Memᴰ.tail (s.from c (m, h))
      go false z s = record { into = λ c m. let (n, h) = s.into c m in (Memᴰ.tail n, h); from = from }
        where
          from : (c : ℕ) → elements (x ∷ l) c × formulas t r (written t c) → elements (rest t l r) c
          from c (Memᴰ.head i, h) = absurd (fails z refl (subst (λ (k : ℕ). formulas t r (written t k)) i h))
          from c (Memᴰ.tail m, h) = s.from c (m, h)

-- the slice's test of what it begins with is that of letters in front of a file
use Rattle.std.specs.Prelude.{◌≡◌, refl, List, [], ◌∷◌, Bool, true, false, ℕ, eqb}
use Rattle.std.specs.List.{starts_with}
use Rattle.std.proofs.Common.{sym, eq-eqb}
use Rattle.verdict.specs.Tells.{Tells, eqb_tells, fails, fails_holds}
use Rattle.encoding.specs.Opening.{opens}

either_way : (c x : ℕ) → eqb c x ≡ eqb x c
either_way c x = go (eqb x c) (eqb_tells x c)
  where
    go : (b : Bool) → Tells b (x ≡ c) → eqb c x ≡ b
    go true t = eq-eqb c x (sym (t.says refl))
    go false t = fails_holds (eqb_tells c x) (λ e. fails t refl (sym e))

pub begins_opens : (l s : List ℕ) → starts_with eqb s l ≡ opens l s
unfolding opens
begins_opens [] s = refl
begins_opens (c ∷ l) [] = refl
begins_opens (c ∷ l) (x ∷ s) = rw (either_way c x, begins_opens l s) refl

-- mu and nu are one test, by the kind of the principal and the focus of its body
use Rattle.std.specs.Prelude.{◌≡◌, ◌⊎◌, ◌∷◌, Bool, ◌&&◌, ℕ}
use Rattle.formula.specs.Kind
use Rattle.formula.specs.Table.{Table}
use Rattle.calculus.specs.View.{View}
use Rattle.calculus.specs.Judge.{first_keys, key_a, of_kind, sides}

abbrev pub IsFixpoint : ℕ → Type 0
IsFixpoint k = (k ≡ Kind.MU) ⊎ (k ≡ Kind.NU)

-- side plus the body's target at focus f
abbrev pub fixpoint_kept_lem : Table → View → ℕ → ℕ → ℕ → Bool
fixpoint_kept_lem t q k f v = of_kind t q k v && q.same (first_keys t q v) (key_a t q v f ∷ sides t q v)

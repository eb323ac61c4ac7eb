-- the stage sets lie below the own meanings once they settle
use Rattle.std.specs.Prelude.{ℕ, suc, ◌<◌, length}
use Rattle.std.proofs.Math.Path.{refl}
use Rattle.std.proofs.Common.{arith}
use Rattle.formula.specs.Table.{Table}
use Rattle.formula.specs.Shape.{shape}
use Rattle.conditions.specs.Free.{Free}
use Rattle.conditions.specs.WellFormed.{WellFormed}
use Rattle.meaning.specs.States.{Model, StateSet, Sub}
use Rattle.meaning.specs.StateLaws.{sub_trans, same_sub, same_sym}
use Rattle.formula.specs.Below.{by_smaller, by_larger}
use Rattle.meaning.specs.Meaning.{Env, meaning, owns, own}
use Rattle.conditions.specs.WellFormedLaws.{free_in}
use Rattle.meaning.specs.OwnLaws.{owns_own}
use Rattle.rank.specs.Stages.{stages, enough}
use Rattle.rank.specs.StageLaws.{over-step}

module _ (M : Model) (t : Table) (wf : WellFormed t) where
  -- what is left then, and the stage before it
  abbrev Left : ℕ → StateSet
  Left = stages M t (suc (enough M t))

  -- under every environment that is over what is left of the free names, e is over what is left of it
  abbrev Over : ℕ → Type 0
  Over e = (ρ : Env) → ((x : ℕ) → Free t e x → Sub M.size (Left x) (ρ x)) → Sub M.size (Left e) (meaning M t e ρ)

  over : (e : ℕ) → e < length t → Over e
  over = by_smaller (λ e. e < length t → Over e)
      (λ e ih l. over-step M t wf e l (shape t e) refl (λ c o. ih c (wf.operands_below e c o) (omega (arith, wf.operands_below e c o))))

  pub left_own : (e : ℕ) → e < length t → Sub M.size (Left e) (own M t e)
  unfolding own
  left_own = by_larger (λ e. Sub M.size (Left e) (own M t e)) (length t)
      (λ e l ih. over e l (owns M t (length t)) (λ x f.
      let m = free_in t wf f in sub_trans (ih x (wf.free_above e x f) m) (same_sub (same_sym (owns_own M t wf x m)))))

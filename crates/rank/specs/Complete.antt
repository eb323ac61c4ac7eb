-- what one step more of the rank refutes
use Rattle.std.specs.Prelude.{◌≡◌, false, ◌⊎◌}
use Rattle.std.proofs.Math.Path.{refl}
use Rattle.std.proofs.Common.{inl, inr}
use Prim.Native.Nat.{ℕ, suc, ◌<◌}
use Rattle.formula.specs.Table.{Table}
use Rattle.formula.specs.Shape.{Shape, leaf, two, step, fix, name, or, and, diamond, box, mu, nu, shape, Operand}
use Rattle.formula.specs.Target.{target_of, target}
use Rattle.conditions.specs.WellFormed.{WellFormed}
use Rattle.meaning.specs.States.{Model, StateSet}
use Rattle.formula.specs.TableLaws.{target_at}
use Rattle.conditions.specs.WellFormedLaws.{name_fix}
use Rattle.rank.specs.FalseSets.{two_false, step_false}
use Rattle.rank.specs.Rank.{Refuted, by_leaf, by_or, by_left, by_right, by_diamond, by_box, by_nu, by_mu, refuted_by, refuted_more}
use Rattle.rank.specs.Stages.{stage_clause, stage}

module _ (M : Model) (t : Table) (wf : WellFormed t) where
  -- refuted at the target within k steps, wherever W is false
  abbrev Refutes : ℕ → (ℕ → StateSet) → ℕ → Type 0
  Refutes k W e = (s : ℕ) → s < M.size → W e s ≡ false → Refuted M t k (target t e) s

  module _ (k : ℕ) (W : ℕ → StateSet) (earlier : (e : ℕ) → Refutes k W e) where
    pub refutes_step : (e : ℕ) (v : Shape) → shape t e ≡ v → ((c : ℕ) → Operand v c → Refutes (suc k) (stage M t W) c)
        → (s : ℕ) → s < M.size → stage_clause M t W (stage M t W) e v s ≡ false → Refuted M t (suc k) (target_of v e) s
    unfolding stage_clause target_of
    refutes_step e (leaf i) q ih s l h = refuted_by M t q (by_leaf h)
    refutes_step e (two or a b) q ih s l h =
        let (x, y) = (two_false or _ _ s).0 h in refuted_by M t q (by_or (ih a (inl refl) s l x) (ih b (inr refl) s l y))
    refutes_step e (two and a b) q ih s l h = go ((two_false and _ _ s).0 h)
      where
        go : (stage M t W a s ≡ false) ⊎ (stage M t W b s ≡ false) → Refuted M t (suc k) e s
        go (inl x) = refuted_by M t q (by_left (ih a (inl refl) s l x))
        go (inr y) = refuted_by M t q (by_right (ih b (inr refl) s l y))
    refutes_step e (step (diamond n) a) q ih s l h = refuted_by M t q (by_diamond (λ u (m, g). earlier a u m ((step_false M (diamond n) _ s).0 h u m g)))
    refutes_step e (step (box n) a) q ih s l h = let (u, m, g, f) = (step_false M (box n) _ s).0 h in refuted_by M t q (by_box (m, g) (earlier a u m f))
    refutes_step e (fix mu a) q ih s l h = refuted_by M t q (by_mu h)
    refutes_step e (fix nu a) q ih s l h = refuted_by M t q (by_nu (ih a refl s l h))
    refutes_step e (name x) q ih s l h =
        let (σ, a, p) = name_fix t wf e x q in refuted_more M t (rw (target_at t x p) at (earlier x s l h))

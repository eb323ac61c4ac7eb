-- the rank is complete: what is false by itself is refuted, within a number of steps that the table and the model give
use Rattle.std.specs.Prelude.{◌≡◌, false}
use Rattle.std.proofs.Math.Path.{refl}
use Rattle.std.proofs.Common.{true≢false, arith}
use Prim.Native.Nat.{ℕ, zero, suc, ◌<◌}
use Rattle.std.proofs.Math.Decide.{dec_lt}
use Rattle.std.proofs.Math.ListN.{length}
use Rattle.formula.specs.Table.{Table}
use Rattle.formula.specs.Shape.{shape}
use Rattle.formula.specs.Target.{target_of, target}
use Rattle.conditions.specs.WellFormed.{WellFormed}
use Rattle.meaning.specs.States.{Model, StateSet, leaf_set, start}
use Rattle.meaning.specs.StateLaws.{sub_false}
use Rattle.meaning.specs.Chain.{iter}
use Rattle.formula.specs.Below.{by_smaller}
use Rattle.meaning.specs.Meaning.{own}
use Rattle.formula.specs.TableLaws.{past_end, target_at}
use Rattle.rank.specs.Rank.{Refuted, by_leaf, refuted_by}
use Rattle.rank.specs.Stages.{stage, stages, enough, rank}
use Rattle.rank.specs.StageLaws.{stage_at}
use Rattle.rank.proofs.StageLaws.{left_own}
use Rattle.rank.specs.Complete.{refutes_step}

module _ (M : Model) (t : Table) (wf : WellFormed t) where
  -- refuted at the target within k steps, wherever W is false
  abbrev Refutes : ℕ → (ℕ → StateSet) → ℕ → Type 0
  Refutes k W e = (s : ℕ) → s < M.size → W e s ≡ false → Refuted M t k (target t e) s

  module _ (k : ℕ) (W : ℕ → StateSet) (earlier : (e : ℕ) → Refutes k W e) where
    refutes_more : (e : ℕ) → Refutes (suc k) (stage M t W) e
    refutes_more = by_smaller (Refutes (suc k) (stage M t W))
        (λ e ih s l h. rw (target_at t e refl) (refutes_step M t wf k W earlier e (shape t e) refl (λ c o. ih c (wf.operands_below e c o)) s l
        (rw (stage_at M t wf W e refl) at h)))

  stages_refute : (k e : ℕ) → Refutes k (stages M t k) e
  unfolding stages iter start
  stages_refute zero e = λ s l h. absurd (true≢false h)
  stages_refute (suc k) e = refutes_more k (stages M t k) (stages_refute k) e

  pub false_refuted : (e s : ℕ) → s < M.size → own M t e s ≡ false → Refuted M t (rank M t) (target t e) s
  unfolding rank
  false_refuted e s l h = go (dec_lt e (length t))
    where
      go : Dec (e < length t) → Refuted M t (rank M t) (target t e) s
      go (yes m) = stages_refute (suc (enough M t)) e s l (sub_false (left_own M t wf e m) s l h)
      go (no m) = let q = past_end t e (omega arith) in rw (target_at t e q) (unfold target_of leaf_set in refuted_by M t q (by_leaf refl))

-- the stage sets fall and settle, and one step towards it that what is left lies below the own meanings
use Rattle.std.specs.Prelude.{◌≡◌, ℕ, suc, ◌<◌, length}
use Rattle.std.proofs.Math.Path.{refl, ap}
use Rattle.std.proofs.Common.{◌∙◌, inl, inr, arith}
use Rattle.formula.specs.Table.{Table}
use Rattle.formula.specs.Shape.{Shape, leaf, two, step, fix, name, Fix, mu, nu, shape, Operand}
use Rattle.conditions.specs.Free.{Free, named, inside}
use Rattle.conditions.specs.WellFormed.{WellFormed}
use Rattle.meaning.specs.States.{Model, StateSet, Sub, leaf_set, two_set, start}
use Rattle.meaning.specs.StateLaws.{sub_refl, sub_trans, same_sub, Toward, toward_bounded, start_first, two_mono, step_mono}
use Rattle.meaning.specs.Chain.{iter, settles}
use Rattle.meaning.specs.Bounds.{Each, each}
use Rattle.formula.specs.Below.{recur_eq, by_smaller}
use Rattle.meaning.specs.Meaning.{Env, put, clause, meaning, owns, own}
use Rattle.meaning.specs.MeaningLaws.{put_at, meaning_at, meaning_mono}
use Rattle.meaning.proofs.FixLaws.{nu_greatest}
use Rattle.formula.specs.TableLaws.{fix_in}
use Rattle.conditions.specs.WellFormedLaws.{operand_below, free_fix}
use Rattle.meaning.specs.OwnLaws.{owns_own}
use Rattle.rank.specs.Stages.{stage_clause, stage, stages, enough}

module _ (M : Model) (t : Table) (wf : WellFormed t) where
  stage_clause_local : (W f g : ℕ → StateSet) (e : ℕ) (v : Shape) → ((c : ℕ) → Operand v c → f c ≡ g c)
      → stage_clause M t W f e v ≡ stage_clause M t W g e v
  unfolding stage_clause
  stage_clause_local W f g e (leaf l) h = refl
  stage_clause_local W f g e (two o a b) h = λ i. two_set o (h a (inl refl) i) (h b (inr refl) i)
  stage_clause_local W f g e (step m a) h = refl
  stage_clause_local W f g e (fix mu a) h = refl
  stage_clause_local W f g e (fix nu a) h = h a refl
  stage_clause_local W f g e (name x) h = refl

  -- a stage set by the shape
  pub stage_at : (W : ℕ → StateSet) (e : ℕ) {v : Shape} → shape t e ≡ v → stage M t W e ≡ stage_clause M t W (stage M t W) e v
  unfolding stage
  stage_at W e q =
      recur_eq (start mu) (λ f e. stage_clause M t W f e (shape t e))
      (λ f g e h. stage_clause_local W f g e (shape t e) (λ c o. h c (wf.operands_below e c o))) e
      ∙ ap (stage_clause M t W (stage M t W) e) q

  -- families of sets, one for each entry, from above
  abbrev Falls : (ℕ → StateSet) → (ℕ → StateSet) → Type 0
  Falls = Each (Toward M.size nu) (length t)

  stage_clause_mono : (W U f g : ℕ → StateSet) → Falls W U → (e : ℕ) → e < length t → (v : Shape) → shape t e ≡ v
      → ((c : ℕ) → Operand v c → Sub M.size (g c) (f c)) → Sub M.size (stage_clause M t U g e v) (stage_clause M t W f e v)
  unfolding stage_clause
  stage_clause_mono W U f g p e l (leaf k) q h = sub_refl (leaf_set M k)
  stage_clause_mono W U f g p e l (two o a b) q h = two_mono o (h a (inl refl)) (h b (inr refl))
  stage_clause_mono W U f g p e l (step m a) q h = step_mono M m (p a (omega (arith, operand_below t wf e a q refl)))
  stage_clause_mono W U f g p e l (fix mu a) q h = sub_refl (own M t e)
  stage_clause_mono W U f g p e l (fix nu a) q h = h a refl
  stage_clause_mono W U f g p e l (name x) q h = p x (wf.names_above e x q).1

  stage_mono : (W U : ℕ → StateSet) → Falls W U → Falls (stage M t W) (stage M t U)
  stage_mono W U p =
      by_smaller (λ e. e < length t → Sub M.size (stage M t U e) (stage M t W e))
      (λ e ih l. rw (stage_at U e refl, stage_at W e refl)
      (stage_clause_mono W U _ _ p e l (shape t e) refl (λ c o. ih c (wf.operands_below e c o) (omega (arith, wf.operands_below e c o)))))

  -- no state leaves after `enough` stages
  stages_settle : (e : ℕ) → e < length t → Sub M.size (stages M t (enough M t) e) (stages M t (suc (enough M t)) e)
  unfolding stages enough
  stages_settle = (settles (each (toward_bounded M.size nu) (length t)) (stage M t) stage_mono (λ e. start nu) (λ W e l. start_first M.size nu (W e))).1

  -- what is left then, and the stage before it
  abbrev Left : ℕ → StateSet
  Left = stages M t (suc (enough M t))

  abbrev Earlier : ℕ → StateSet
  Earlier = stages M t (enough M t)

  left_at : (e : ℕ) {v : Shape} → shape t e ≡ v → Left e ≡ stage_clause M t Earlier Left e v
  unfolding stages iter
  left_at e q = stage_at Earlier e q

  -- under every environment that is over what is left of the free names, e is over what is left of it
  abbrev Over : ℕ → Type 0
  Over e = (ρ : Env) → ((x : ℕ) → Free t e x → Sub M.size (Left x) (ρ x)) → Sub M.size (Left e) (meaning M t e ρ)

  -- a free name of a mu is a mu's
  mu_over : (e a x : ℕ) → shape t e ≡ fix mu a → Free t e x → Sub M.size (owns M t (length t) x) (Left x)
  mu_over e a x q f = go (free_fix t wf f)
    where
      go : (σ : Fix) × (b : ℕ) × (shape t x ≡ fix σ b) → Sub M.size (owns M t (length t) x) (Left x)
      go (σ, b, r) =
          rw (left_at x {v = fix mu b} (rw (wf.no_alternation e x a b mu σ q f r) r)) (unfold stage_clause in same_sub (owns_own M t wf x (fix_in t x b σ r)))

  pub over-step : (e : ℕ) → e < length t → (v : Shape) → shape t e ≡ v → ((c : ℕ) → Operand v c → Over c) → Over e
  unfolding stage_clause clause own
  over-step e l (leaf k) q ih ρ h = rw (left_at e q, meaning_at M t wf e q ρ) (sub_refl (leaf_set M k))
  over-step e l (two o a b) q ih ρ h =
      rw (left_at e q, meaning_at M t wf e q ρ)
      (two_mono o (ih a (inl refl) ρ (λ x f. h x (inside _ q (inl refl) absurd f)))
      (ih b (inr refl) ρ (λ x f. h x (inside _ q (inr refl) absurd f))))
  over-step e l (step m a) q ih ρ h =
      rw (left_at e q, meaning_at M t wf e q ρ)
      (step_mono M m (sub_trans (stages_settle a (omega (arith, operand_below t wf e a q refl)))
      (ih a refl ρ (λ x f. h x (inside _ q refl absurd f)))))
  over-step e l (fix mu a) q ih ρ h =
      rw (left_at e q) (meaning_mono M t wf e _ ρ (λ x f. sub_trans (mu_over e a x q f) (h x f)))
  over-step e l (fix nu a) q ih ρ h =
      nu_greatest M t wf e a q ρ (Left e)
      (sub_trans (rw (left_at e q) (sub_refl (Left a))) (ih a refl (put ρ e (Left e))
      (λ x f. put_at (λ y A. Sub M.size (Left y) A) ρ e (Left e) x (sub_refl (Left e)) (λ ne. h x (inside _ q refl (λ _. ne) f)))))
  over-step e l (name x) q ih ρ h =
      rw (left_at e q, meaning_at M t wf e q ρ) (sub_trans (stages_settle x (wf.names_above e x q).1) (h x (named q)))

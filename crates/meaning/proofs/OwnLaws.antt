-- an entry by itself: the own meanings are closed under every connective, and a fixpoint's is its body's
use Rattle.std.specs.Prelude.{◌≡◌, refl, length}
use Prim.Native.Nat.{ℕ}
use Rattle.formula.specs.Table.{Table}
use Rattle.formula.specs.Shape.{Shape, leaf, two, step, fix, name, Fix, shape}
use Rattle.conditions.specs.WellFormed.{WellFormed}
use Rattle.meaning.specs.States.{Model, SameStates}
use Rattle.meaning.specs.StateLaws.{same_sym, same_trans, path_same, two_same, step_same}
use Rattle.meaning.specs.Meaning.{clause, owns, own}
use Rattle.meaning.specs.MeaningLaws.{put_at, meaning_at, meaning_local}
use Rattle.meaning.proofs.FixLaws.{fix_is}
use Rattle.formula.specs.TableLaws.{fix_in}
use Rattle.meaning.specs.OwnLaws.{closed, own_name, own_target, owns_own}

module _ (M : Model) where
  module _ (t : Table) (wf : WellFormed t) where
    -- at a fixpoint the body is read with the fixpoint's own meaning
    own_body : (e a : ℕ) (σ : Fix) → shape t e ≡ fix σ a → SameStates M.size (own M t e) (own M t a)
    unfolding own
    own_body e a σ q =
        same_trans (fix_is M t wf e a σ q _)
        (meaning_local M t wf a _ _
        (λ x f. put_at (λ y A. SameStates M.size A (owns M t (length t) y)) _ e _ x (same_sym (owns_own M t wf e (fix_in t e a σ q))) (λ ne s l. refl)))

    pub own_law : (e : ℕ) (v : Shape) → shape t e ≡ v → SameStates M.size (own M t e) (closed M t v)
    unfolding closed own clause
    own_law e (leaf l) q = path_same (meaning_at M t wf e q _)
    own_law e (two o a b) q = same_trans (path_same (meaning_at M t wf e q _)) (two_same o (own_target M t wf a) (own_target M t wf b))
    own_law e (step m a) q = same_trans (path_same (meaning_at M t wf e q _)) (step_same M m (own_target M t wf a))
    own_law e (fix σ a) q = same_trans (own_body e a σ q) (own_target M t wf a)
    own_law e (name x) q = own_name M t wf e x q

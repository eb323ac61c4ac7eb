-- own meanings: that of a name is its fixpoint's, and those of operands are their targets'
use Rattle.std.specs.Prelude.{◌≡◌, refl, length}
use Rattle.std.proofs.Common.{sym, arith}
use Prim.Native.Nat.{ℕ, zero, suc, ◌+◌, ◌-◌, ◌<◌, ◌≤◌}
use Rattle.formula.specs.Table.{Table}
use Rattle.formula.specs.Shape.{Shape, leaf, two, step, fix, name, shape}
use Rattle.formula.specs.Target.{target}
use Rattle.conditions.specs.WellFormed.{WellFormed}
use Rattle.meaning.specs.States.{Model, StateSet, SameStates, leaf_set, two_set, step_set}
use Rattle.meaning.specs.StateLaws.{same_trans, path_same}
use Rattle.meaning.specs.Meaning.{clause, meaning, owns, own}
use Rattle.meaning.specs.MeaningLaws.{put_at, put_other, meaning_at, meaning_local}
use Rattle.formula.specs.TableLaws.{target_by}

module _ (M : Model) where
  -- the set that a shape makes of its targets' own meanings
  unfoldable pub closed : Table → Shape → StateSet
  closed t (leaf l) = leaf_set M l
  closed t (two o a b) = two_set o (own M t (target t a)) (own M t (target t b))
  closed t (step m a) = step_set M m (own M t (target t a))
  closed t (fix σ a) = own M t (target t a)
  closed t (name x) = own M t x

  module _ (t : Table) (wf : WellFormed t) where
    -- one more own meaning changes nothing at or above it
    owns_more : (d x : ℕ) → length t ≤ x + suc d → SameStates M.size (meaning M t x (owns M t d)) (meaning M t x (owns M t (suc d)))
    unfolding owns
    owns_more d x h =
        meaning_local M t wf x (owns M t d) (owns M t (suc d))
        (λ y f. path_same (sym (put_other (owns M t d) (length t - suc d) _ y (λ e. omega (arith, wf.free_above x y f)))))

    found : (d : ℕ) → d ≤ length t → (x : ℕ) → length t ≤ x + d → x < length t → SameStates M.size (owns M t d x) (meaning M t x (owns M t d))
    unfolding owns
    found zero h x k l = absurd (omega arith)
    found (suc d) h x k l =
        same_trans
        (put_at (λ y A. SameStates M.size A (meaning M t y (owns M t d))) (owns M t d) (length t - suc d) _ x (λ s m. refl)
        (λ ne. found d (omega arith) x (omega arith) l))
        (owns_more d x k)

    -- the environment of `own` gives each entry's name the own meaning of that entry
    pub owns_own : (x : ℕ) → x < length t → SameStates M.size (owns M t (length t) x) (own M t x)
    unfolding own
    owns_own x l = found (length t) (omega arith) x (omega arith) l

    pub own_name : (e x : ℕ) → shape t e ≡ name x → SameStates M.size (own M t e) (own M t x)
    unfolding own clause
    own_name e x q = same_trans (path_same (meaning_at M t wf e q _)) (owns_own x (wf.names_above e x q).1)

    pub own_target : (e : ℕ) → SameStates M.size (own M t e) (own M t (target t e))
    own_target e = target_by t e (λ d. SameStates M.size (own M t e) (own M t d)) (λ _ s k. refl) (own_name e)

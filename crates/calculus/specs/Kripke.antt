-- Kripke meaning is such a falsity: an entry by itself is false where its own meaning does not hold
use Rattle.std.specs.Prelude.{◌≡◌, false, ℕ, ◌<◌}
use Rattle.std.proofs.Math.Path.{refl}
use Rattle.std.proofs.Common.{sym, ◌∙◌}
use Rattle.std.proofs.Math.Bool.{true≢false}
use borrow.Author.Tests.{not-false}
use Rattle.formula.specs.Table.{Table, entry}
use Rattle.formula.specs.Shape.{Shape, shape, or, and, diamond, box}
use Rattle.formula.specs.ShapeLaws.{true_shape, letter_shape, negated_shape, or_shape, and_shape, diamond_shape, box_shape, mu_shape, nu_shape, target_other}
use Rattle.formula.specs.Members.{formula_shape}
use Rattle.conditions.specs.WellFormed.{WellFormed}
use Rattle.meaning.specs.States.{Model, leaf_set}
use Rattle.rank.specs.FalseSets.{two_false, step_false}
use Rattle.meaning.specs.Meaning.{own}
use Rattle.meaning.specs.OwnLaws.{closed}
use Rattle.meaning.proofs.OwnLaws.{own_law}
use Rattle.rank.specs.Rank.{Refuted, refuted_as, refuted_more, refuted_false, or_refuted, and_refuted, diamond_refuted, box_refuted, nu_refuted}
use Rattle.rank.specs.Stages.{rank}
use Rattle.rank.proofs.Complete.{false_refuted}
use Rattle.written.proofs.SameRank.{refuted_like, false_like}
use Rattle.written.proofs.SameKind.{box_like}
use Rattle.calculus.specs.Falsity.{Falsity, Family, Passes, OneLess}

module _ (t : Table) (wf : WellFormed t) (M : Model) where
  abbrev pub FalseAt : Family
  FalseAt e s = own M t e s ≡ false

  -- what an entry's shape makes of its targets is false where the entry is
  pub by_shape : (e s : ℕ) {v : Shape} → s < M.size → shape t e ≡ v → FalseAt e s → closed M t v s ≡ false
  by_shape e s {v} l q f = sym (own_law M t wf e v q s l) ∙ f

  pub false_passes : Passes t M FalseAt FalseAt
  unfolding closed
  false_passes = record {
    or = λ e s l q f. (two_false or _ _ s).0 (by_shape e s l (or_shape t e q) f);
    and = λ e s l q f. (two_false and _ _ s).0 (by_shape e s l (and_shape t e q) f);
    nu = λ e s l q f. by_shape e s l (nu_shape t e q) f;
    box = λ e s l q f. let (u, k, h, g) = (step_false M (box _) _ s).0 (by_shape e s l (box_shape t e q) f) in (u, (k, h), g);
    diamond = λ e s l q f u h. (step_false M (diamond _) _ s).0 (by_shape e s l (diamond_shape t e q) f) u h.0 h.1;
  }

  pub refuted_passes : (j : ℕ) → Passes t M (Refuted M t j) (OneLess (Refuted M t) j)
  refuted_passes j = record {
    or = λ e s l q r. or_refuted M t (refuted_as M t (or_shape t e q) r);
    and = λ e s l q r. and_refuted M t (refuted_as M t (and_shape t e q) r);
    nu = λ e s l q r. nu_refuted M t (refuted_as M t (nu_shape t e q) r);
    box = λ e s l q r. box_refuted M t (refuted_as M t (box_shape t e q) r);
    diamond = λ e s l q r. diamond_refuted M t (refuted_as M t (diamond_shape t e q) r);
  }

  unfoldable pub kripke : Falsity t M
  unfolding closed leaf_set
  kripke = record {
    false_at = FalseAt;
    Refuted = Refuted M t;
    false_passes = false_passes;
    refuted_passes = refuted_passes;
    true_false = λ e s l q f. true≢false (by_shape e s l (true_shape t e q) f);
    letter_false = λ e s l q f. by_shape e s l (letter_shape t e q) f;
    negated_false = λ e s l q f. not-false (M.letter s (entry t e).a) (by_shape e s l (negated_shape t e q) f);
    mu_false = λ e s l q f. by_shape e s l (mu_shape t e q) f;
    refuted_false = λ j e s l r. refuted_false M t wf refl r l;
    more_steps = λ j e s r. refuted_more M t r;
    complete = λ e s l F f. (rank M t, rw (target_other t e F.no_name) at (false_refuted M t wf e s l f));
    false_like = λ e f s l q h. false_like M t wf e f s l q h;
    refuted_like = λ j e f s l F q r. refuted_like M t wf j e f s l (formula_shape t f F) q r;
    box_like = λ e f k F q. (box_like t wf e f k F q).2;
  }

-- the test that a rule names, of all that a rule with a principal looks at
use Rattle.std.specs.Prelude.{◌≡◌, Bool, false, ℕ, get_or}
use Rattle.std.proofs.Math.Path.{refl}
use Rattle.formula.specs.Kind
use Rattle.formula.specs.Rule
use Rattle.formula.specs.Table.{Table}
use Rattle.formula.specs.Codes.{focus_of}
use Rattle.calculus.specs.View.{View}
use Rattle.calculus.specs.Judge.{mu_kept, nu_kept, weaken_kept, focus_kept_lem, tests}
use Rattle.operand_rules.specs.Fixpoint.{fixpoint_kept_lem}

unfoldable pub tested : Table → ℕ → View → Bool
unfolding tests
tested t r q = get_or (tests t q) r (λ _. false) 0

module _ (t : Table) (q : View) {r : ℕ} where
  pub tested_mu : r ≡ Rule.MU → fixpoint_kept_lem t q Kind.MU 0 0 ≡ tested t r q
  unfolding tested tests mu_kept
  tested_mu e = rw e refl

  pub tested_nu : r ≡ Rule.NU → fixpoint_kept_lem t q Kind.NU (focus_of (q.node 0).principal) 0 ≡ tested t r q
  unfolding tested tests nu_kept
  tested_nu e = rw e refl

  pub tested_w : r ≡ Rule.W → weaken_kept t q 0 ≡ tested t r q
  unfolding tested tests
  tested_w e = rw e refl

  pub tested_f : r ≡ Rule.F → focus_kept_lem t q 0 1 0 ≡ tested t r q
  unfolding tested tests
  tested_f e = rw e refl

  pub tested_u : r ≡ Rule.U → focus_kept_lem t q 1 0 0 ≡ tested t r q
  unfolding tested tests
  tested_u e = rw e refl

-- 37 and 38 are exact: the test of a node's rule tells that it keeps the rule
use Rattle.std.specs.Prelude.{◌≡◌, refl, ◌∷◌, false, ℕ, zero, suc, ◌<◌, ◌≤◌, length}
use Rattle.std.proofs.Math.Logic.{inl, inr}
use Rattle.std.proofs.Math.Bool.{true}
use Rattle.std.proofs.lemmas.Bool.{false≢true}
use Rattle.std.proofs.Common.{arith}
use Rattle.std.proofs.Math.ListN.{get_or}
use Rattle.formula.specs.Kind
use Rattle.formula.specs.Rule
use Rattle.verdict.specs.Sets.{Same, ◌plus◌}
use Rattle.formula.specs.Table.{Table, entry}
use Rattle.formula.specs.Shape.{Shape, shape, Operand}
use Rattle.formula.specs.ShapeLaws.{or_shape, and_shape, mu_shape, nu_shape}
use Rattle.formula.specs.Nodes.{Proof, node}
use Rattle.formula.specs.Claim.{Claim, Derivation}
use Rattle.calculus.specs.Tree.{Forest, first, second}
use Rattle.calculus.specs.Paths.{ancestor_below}
use Rattle.calculus.specs.Sequents.{member, rule, sequent, first_sequent, second_sequent, formula, focus, side, Belongs}
use Rattle.calculus.specs.Rules.{A, B, Principal, Clash, Truth, Step, BackLeaf, Leaf, Keeps, ax1, ax2, or, and, box, mu, nu, weaken, into_focus, out_of_focus, discharge, back, by_children, by_tree}
use Rattle.calculus.specs.View.{plain}
use Rattle.calculus.specs.Judge.{keys, sides, key_a, tests, step_kept, leaf_kept, keeps, ax1_kept, ax2_kept, or_kept, and_kept, mu_kept, nu_kept, weaken_kept, focus_kept_lem, discharge_kept, back_kept}
use Rattle.calculus.specs.Given.{Given}
use Rattle.verdict.specs.Tells.{Tells, tells_as, eqb_tells, and_tells, or_tells, and_tells_given}
use Rattle.calculus.proofs.ClimbLaws.{ancestor_tells}
use Rattle.calculus.specs.KeyLaws.{Keys, same_keys}
use Rattle.calculus.specs.AxiomLaws.{clash_tells, truth_tells}
use Rattle.calculus.specs.PrincipalLaws.{with_member, sequent_keys, a_formula, b_formula}
use Rattle.calculus.proofs.PrincipalLaws.{belongs_tells, side_keys}
use Rattle.calculus.proofs.Principals.{principal_tells}
use Rattle.calculus.proofs.BoxLaws.{box_exact}

-- by rule number
by_rule : (P : ℕ → Type 0) → P 0 → P 1 → P 2 → P 3 → P 4 → P 5 → P 6 → P 7 → P 8 → P 9 → P 10
    → ((r : ℕ) → P (suc (suc (suc (suc (suc (suc (suc (suc (suc (suc (suc r))))))))))))
    → (r : ℕ) → P r
by_rule P a b c d e f g h i j k l zero = a
by_rule P a b c d e f g h i j k l (suc zero) = b
by_rule P a b c d e f g h i j k l (suc (suc zero)) = c
by_rule P a b c d e f g h i j k l (suc (suc (suc zero))) = d
by_rule P a b c d e f g h i j k l (suc (suc (suc (suc zero)))) = e
by_rule P a b c d e f g h i j k l (suc (suc (suc (suc (suc zero))))) = f
by_rule P a b c d e f g h i j k l (suc (suc (suc (suc (suc (suc zero)))))) = g
by_rule P a b c d e f g h i j k l (suc (suc (suc (suc (suc (suc (suc zero))))))) = h
by_rule P a b c d e f g h i j k l (suc (suc (suc (suc (suc (suc (suc (suc zero)))))))) = i
by_rule P a b c d e f g h i j k l (suc (suc (suc (suc (suc (suc (suc (suc (suc zero))))))))) = j
by_rule P a b c d e f g h i j k l (suc (suc (suc (suc (suc (suc (suc (suc (suc (suc zero)))))))))) = k
by_rule P a b c d e f g h i j k l (suc (suc (suc (suc (suc (suc (suc (suc (suc (suc (suc r))))))))))) = l r

module _ (c : Claim) (d : Derivation) (T : Forest d.nodes) (G : Given c d) (v : ℕ) (real : v < length d.nodes) where
  abbrev t : Table
  t = c.entries

  abbrev p : Proof
  p = d.nodes

  here : Keys t (keys t (plain p) v) (sequent t p v)
  here = sequent_keys c d G v real

  ax1_exact : Tells (ax1_kept t (plain p) v) (Clash c d v)
  unfolding ax1_kept
  ax1_exact = tells_as
      (λ z. record { plain = z.plain; negated = z.negated; plain_kind = z.opposed.plain_kind; negated_kind = z.opposed.negated_kind; one_letter = z.opposed.one_letter; exactly = z.exactly })
      (λ z. record { plain = z.plain; negated = z.negated; opposed = record { plain_kind = z.plain_kind; negated_kind = z.negated_kind; one_letter = z.one_letter }; exactly = z.exactly })
      (clash_tells t G.well here)

  ax2_exact : Tells (ax2_kept t (plain p) v) (Truth c d v)
  unfolding ax2_kept
  ax2_exact = tells_as
      (λ z. record { only = z.only; of_kind = z.of_kind; exactly = z.exactly })
      (λ z. record { only = z.only; of_kind = z.of_kind; exactly = z.exactly })
      (truth_tells t G.well here)

  -- the side with the target of the principal's first operand
  with_a : {s : Shape} (f : ℕ) → f < 2 → Belongs t p v → shape t (formula p v) ≡ s → Operand s (entry t (formula p v)).a
      → Keys t (key_a t (plain p) v f ∷ sides t (plain p) v) (side t p v plus member t (A c d v) f)
  with_a f h b q o = with_member t (A c d v) f h (a_formula c d G v real b q o) (side_keys c d G v real b)

  module _ (child : (node p v).first < length p) where
    first_keys_lem : Keys t (keys t (plain p) (node p v).first) (first_sequent t p v)
    first_keys_lem = sequent_keys c d G (node p v).first child

    or_exact : Tells (or_kept t (plain p) v)
        (Principal c d v Kind.OR × Same (first_sequent t p v) (side t p v plus member t (A c d v) (focus p v) plus member t (B c d v) (focus p v)))
    unfolding or_kept
    or_exact = and_tells_given (principal_tells c d G v real Kind.OR) (λ P.
        let b = P.belongs in
        let q = or_shape t (formula p v) P.of_kind in
        same_keys t first_keys_lem (with_member t (B c d v) (focus p v) (omega arith) (b_formula c d G v real b q (inr refl)) (with_a (focus p v) (omega arith) b q (inl refl))))

    and_exact : (node p v).second < length p
        → Tells (and_kept t (plain p) v)
        (Principal c d v Kind.AND
        × (Same (first_sequent t p v) (side t p v plus member t (A c d v) (focus p v)) × Same (second_sequent t p v) (side t p v plus member t (B c d v) (focus p v))))
    unfolding and_kept
    and_exact other = and_tells_given (principal_tells c d G v real Kind.AND) (λ P.
        let b = P.belongs in
        let q = and_shape t (formula p v) P.of_kind in
        and_tells
        (same_keys t first_keys_lem (with_a (focus p v) (omega arith) b q (inl refl)))
        (same_keys t (sequent_keys c d G _ other) (with_member t (B c d v) (focus p v) (omega arith) (b_formula c d G v real b q (inr refl)) (side_keys c d G v real b))))

    mu_exact : Tells (mu_kept t (plain p) v) (Principal c d v Kind.MU × Same (first_sequent t p v) (side t p v plus member t (A c d v) 0))
    unfolding mu_kept
    mu_exact = and_tells_given (principal_tells c d G v real Kind.MU)
        (λ P. same_keys t first_keys_lem (with_a 0 (omega arith) P.belongs (mu_shape t (formula p v) P.of_kind) refl))

    nu_exact : Tells (nu_kept t (plain p) v) (Principal c d v Kind.NU × Same (first_sequent t p v) (side t p v plus member t (A c d v) (focus p v)))
    unfolding nu_kept
    nu_exact = and_tells_given (principal_tells c d G v real Kind.NU)
        (λ P. same_keys t first_keys_lem (with_a (focus p v) (omega arith) P.belongs (nu_shape t (formula p v) P.of_kind) refl))

    weaken_exact : Tells (weaken_kept t (plain p) v) (Belongs t p v × Same (first_sequent t p v) (side t p v))
    unfolding weaken_kept
    weaken_exact = and_tells_given (belongs_tells c d G v real) (λ b. same_keys t first_keys_lem (side_keys c d G v real b))

    focus_exact : (f g : ℕ) → g < 2
        → Tells (focus_kept_lem t (plain p) f g v) (Belongs t p v × ((focus p v ≡ f) × Same (first_sequent t p v) (side t p v plus member t (formula p v) g)))
    unfolding focus_kept_lem
    focus_exact f g h = and_tells_given (belongs_tells c d G v real)
        (λ b. and_tells (eqb_tells (focus p v) f) (same_keys t first_keys_lem (with_member t (formula p v) g h b.formula (side_keys c d G v real b))))

    discharge_exact : Tells (discharge_kept t (plain p) v) (Same (first_sequent t p v) (sequent t p v))
    unfolding discharge_kept
    discharge_exact = same_keys t first_keys_lem here

  back_exact : Tells (back_kept t (plain p) v) (BackLeaf c d v)
  unfolding back_kept
  back_exact = tells_as
      (λ (a, (e, s)). record { companion = a; companion_rule = e; same = s })
      (λ z. (z.companion, (z.companion_rule, z.same)))
      (and_tells_given (ancestor_tells p T (node p v).back v real)
      (λ a. and_tells (eqb_tells (rule p (node p v).back) Rule.D) (same_keys t here (sequent_keys c d G (node p v).back (omega (arith, ancestor_below T a))))))

  -- a rule's child is a node
  first_in : (Rule.OR ≤ rule p v) × (rule p v ≤ Rule.D) → (node p v).first < length p
  first_in (a, b) = T.inside (first real a b refl)

  second_in : rule p v ≡ Rule.AND → (node p v).second < length p
  second_in e = T.inside (second real e refl)

  says : (r : ℕ) → rule p v ≡ r → get_or (tests t (plain p)) r (λ _. false) v ≡ true → Step c d v
  unfolding tests
  says = by_rule (λ r. rule p v ≡ r → get_or (tests t (plain p)) r (λ _. false) v ≡ true → Step c d v)
      (λ e h. ax1 e (ax1_exact.says h))
      (λ e h. ax2 e (ax2_exact.says h))
      (λ e h. let (P, f) = (or_exact (first_in (omega arith))).says h in or e P f)
      (λ e h. let (P, (f, g)) = (and_exact (first_in (omega arith)) (second_in e)).says h in and e P f g)
      (λ e h. let (P, (o, f)) = (box_exact c d G v real (first_in (omega arith))).says h in box e P o f)
      (λ e h. let (P, f) = (mu_exact (first_in (omega arith))).says h in mu e P f)
      (λ e h. let (P, f) = (nu_exact (first_in (omega arith))).says h in nu e P f)
      (λ e h. let (b, f) = (weaken_exact (first_in (omega arith))).says h in weaken e b f)
      (λ e h. let (b, (k, f)) = (focus_exact (first_in (omega arith)) 0 1 (omega arith)).says h in into_focus e b k f)
      (λ e h. let (b, (k, f)) = (focus_exact (first_in (omega arith)) 1 0 (omega arith)).says h in out_of_focus e b k f)
      (λ e h. discharge e ((discharge_exact (first_in (omega arith))).says h))
      (λ r e h. absurd (false≢true h))

  holds : Step c d v → step_kept t (plain p) v ≡ true
  unfolding step_kept tests
  holds (ax1 e k) = rw e (ax1_exact.holds k)
  holds (ax2 e k) = rw e (ax2_exact.holds k)
  holds (or e P f) = rw e ((or_exact (first_in (omega arith))).holds (P, f))
  holds (and e P f g) = rw e ((and_exact (first_in (omega arith)) (second_in e)).holds (P, (f, g)))
  holds (box e P o f) = rw e ((box_exact c d G v real (first_in (omega arith))).holds (P, (o, f)))
  holds (mu e P f) = rw e ((mu_exact (first_in (omega arith))).holds (P, f))
  holds (nu e P f) = rw e ((nu_exact (first_in (omega arith))).holds (P, f))
  holds (weaken e b f) = rw e ((weaken_exact (first_in (omega arith))).holds (b, f))
  holds (into_focus e b k f) = rw e ((focus_exact (first_in (omega arith)) 0 1 (omega arith)).holds (b, (k, f)))
  holds (out_of_focus e b k f) = rw e ((focus_exact (first_in (omega arith)) 1 0 (omega arith)).holds (b, (k, f)))
  holds (discharge e f) = rw e ((discharge_exact (first_in (omega arith))).holds f)

  step_tells : Tells (step_kept t (plain p) v) (Step c d v)
  unfolding step_kept
  step_tells = record { says = says (rule p v) refl; holds = holds }

  leaf_tells : Tells (leaf_kept c (plain p) v) (Leaf c d v)
  unfolding leaf_kept
  leaf_tells = tells_as (λ (e, k). back e k) (elim [ back e k ↦ (e, k) ]) (and_tells (eqb_tells (rule p v) Rule.BACK) back_exact)

  pub keeps_tells : Tells (keeps c (plain p) v) (Keeps c d v)
  unfolding keeps
  keeps_tells = tells_as (elim [ inl k ↦ by_children k | inr k ↦ by_tree k ]) (elim [ by_children k ↦ inl k | by_tree k ↦ inr k ]) (or_tells step_tells leaf_tells)

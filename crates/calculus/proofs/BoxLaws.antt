-- the test of rule 4 is exact
use Rattle.std.specs.Prelude.{◌≡◌, refl, ◌⊎◌, ◌||◌, ℕ, ◌<◌, eqb, length}
use Rattle.std.proofs.Common.{sym, ap, inl, inr, arith}
use Rattle.formula.specs.Kind
use Rattle.verdict.specs.Sets.{Same, ◌⊆◌, image}
use Rattle.verdict.specs.Tests.{all}
use Rattle.formula.specs.Table.{Table, entry, kind, action}
use Rattle.formula.specs.ShapeLaws.{box_shape, diamond_shape}
use Rattle.formula.specs.Target.{target_a}
use Rattle.formula.specs.Codes.{Formula, entry_of_lem, focus_of}
use Rattle.formula.specs.Nodes.{Proof, node}
use Rattle.formula.specs.Claim.{Claim, Derivation}
use Rattle.written.proofs.SameKind.{box_like}
use Rattle.written.specs.Canon.{key}
use Rattle.calculus.specs.Sequents.{Member, read, listed, first_sequent, principal, formula, Belongs}
use Rattle.calculus.specs.Rules.{DiamondOf, stepped, Principal}
use Rattle.calculus.specs.View.{plain}
use Rattle.calculus.specs.Judge.{diamond_of, codes, box_kept_lem}
use Rattle.calculus.specs.Given.{Given}
use Rattle.verdict.specs.Tells.{Tells, tells_as, eqb_tells, or_tells, and_tells, and_tells_given}
use Rattle.verdict.specs.SetTells.{all_tells}
use Rattle.calculus.specs.MemberLaws.{same_member}
use Rattle.calculus.specs.KeyLaws.{Good, key_says, key_holds, keys_image, same_keys}
use Rattle.calculus.specs.PrincipalLaws.{code_good, operand_formula, sequent_keys}
use Rattle.calculus.proofs.Principals.{principal_tells}
use Rattle.calculus.specs.BoxLaws.{Others}

diamond_tells : (t : Table) (n e : ℕ) → Tells (diamond_of t n e) (DiamondOf t n e)
unfolding diamond_of
diamond_tells t n e = and_tells (eqb_tells (kind t e) Kind.DIAMOND) (eqb_tells (action t e) n)

module _ (c : Claim) (d : Derivation) (G : Given c d) (v : ℕ) (real : v < length d.nodes) where
  abbrev t : Table
  t = c.entries

  abbrev p : Proof
  p = d.nodes

  -- a diamond of the principal's action
  abbrev Diamond : ℕ → Type 0
  Diamond x = DiamondOf t (action t (formula p v)) (entry_of_lem x)

  abbrev Either : ℕ → Type 0
  Either x = (key t x ≡ key t (principal p v)) ⊎ Diamond x

  others_say : Belongs t p v → (listed p v ⊆ Either) → Others c d G v real
  others_say b f x n a = go (f x n)
    where
      go : Either x → Diamond x
      go (inl q) = absurd (a (key_says t x (principal p v) (G.members v x real n) b.formula q))
      go (inr q) = q

  others_hold : Others c d G v real → listed p v ⊆ Either
  others_hold f x n = go (same_member (read t x) (read t (principal p v)))
    where
      go : Dec (read t x ≡ read t (principal p v)) → Either x
      go (yes q) = inl (key_holds t x (principal p v) q)
      go (no q) = inr (f x n q)

  others_tells : Belongs t p v → Tells (all (λ x. eqb (key t x) (key t (principal p v)) || diamond_of t (action t (formula p v)) (entry_of_lem x)) (codes (plain p) v)) (Others c d G v real)
  others_tells b = tells_as (others_say b) others_hold
      (all_tells (λ x. or_tells (eqb_tells (key t x) (key t (principal p v))) (diamond_tells t (action t (formula p v)) (entry_of_lem x))) (codes (plain p) v))

  -- every member has a target: the principal's twins are boxes like it
  stepped_good : Principal c d v Kind.BOX → Others c d G v real → (x : ℕ) → listed p v x → Good t (stepped t x)
  stepped_good P f x n = code_good t (target_a t (entry_of_lem x)) (focus_of x) (omega arith) (go (same_member (read t x) (read t (principal p v))))
    where
      F : Formula t (entry_of_lem x)
      F = G.members v x real n

      go : Dec (read t x ≡ read t (principal p v)) → Formula t (target_a t (entry_of_lem x))
      go (yes q) =
          let k = (box_like t G.well (formula p v) (entry_of_lem x) P.of_kind F (ap (λ (m : Member). m.0) (sym q))).0 in
          operand_formula t G.well (entry_of_lem x) (entry t (entry_of_lem x)).a F (box_shape t (entry_of_lem x) k) refl
      go (no q) = operand_formula t G.well (entry_of_lem x) (entry t (entry_of_lem x)).a F (diamond_shape t (entry_of_lem x) (f x n q).0) refl

  pub box_exact : (node p v).first < length p
      → Tells (box_kept_lem t (plain p) v) (Principal c d v Kind.BOX × (Others c d G v real × Same (first_sequent t p v) (image (λ x. read t (stepped t x)) (listed p v))))
  unfolding box_kept_lem
  box_exact child = and_tells_given (principal_tells c d G v real Kind.BOX) (λ P. and_tells_given (others_tells P.belongs)
      (λ f. same_keys t (sequent_keys c d G _ child) (keys_image t (stepped t) (codes (plain p) v) (stepped_good P f))))

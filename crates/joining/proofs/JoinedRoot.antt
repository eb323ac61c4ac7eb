-- the new root keeps its rule
use Rattle.std.specs.Prelude.{◌≡◌, refl, List, ℕ, ◌+◌, ◌<◌, length}
use Rattle.std.proofs.Common.{sym, ap, ap₂, subst, ◌∙◌, inl, inr, arith}
use Rattle.verdict.specs.Sets.{Set, Same, ◌⊆◌, ◌plus◌, elements, without, image}
use Rattle.verdict.specs.SetTells.{same_sym, same_trans}
use Rattle.formula.specs.Table.{Table}
use Rattle.formula.specs.Codes.{code, entry_of_lem, focus_of, code_entry, code_focus}
use Rattle.formula.specs.Target.{target_a, target_b}
use Rattle.formula.specs.Nodes.{Proof, node}
use Rattle.written.specs.Form.{Form}
use Rattle.written.specs.Written.{written}
use Rattle.calculus.specs.Sequents.{Member, member, read, sequent, side, first_sequent, second_sequent}
use Rattle.calculus.specs.Rules.{Keeps, and, by_children}
use Rattle.calculus.specs.Goals.{focused, Claimed}
use Rattle.joining.specs.Goals.{formulas, rest, enter, joined_goal, Fit}
use Rattle.joining.specs.GoalLaws.{enter_lists, fit_formula}
use Rattle.joining.specs.Joined.{one_goal, one_tree, joined_proof}
use Rattle.joining.specs.Sits.{codes_at}
use Rattle.joining.proofs.JoinedTree.{left, right}
use Rattle.joining.specs.JoinedRoot.{root_claimed}

-- formulas as members, all in focus
abbrev Focused : Set Form → Set Member
Focused S (F, f) = S F × (f ≡ 1)

focused_same : {S R : Set Form} → Same S R → Same (Focused S) (Focused R)
focused_same s = record { into = λ (F, f) (m, i). (s.into F m, i); from = λ (F, f) (m, i). (s.from F m, i) }

focused_plus : (S : Set Form) (F : Form) → Same (Focused (S plus F)) (Focused S plus (F, 1))
focused_plus S F = record { into = into; from = from }
  where
    into : (m : Member) → Focused (S plus F) m → (Focused S plus (F, 1)) m
    into (G, g) (inl m, i) = inl (m, i)
    into (G, g) (inr q, i) = inr (ap₂ {C = Member} (λ a b. (a, b)) q i)

    from : (m : Member) → (Focused S plus (F, 1)) m → Focused (S plus F) m
    from (G, g) (inl (m, i)) = (inl m, i)
    from (G, g) (inr q) = (inr (ap (λ (m : Member). m.0) q), ap (λ (m : Member). m.1) q)

-- a formula that was not there is taken away again
focused_without : (S : Set Form) (F : Form) → (S F → ⊥) → Same (without (Focused (S plus F)) (F, 1)) (Focused S)
focused_without S F n = record { into = into; from = from }
  where
    into : (m : Member) → without (Focused (S plus F)) (F, 1) m → Focused S m
    into (G, g) ((inl m, i), k) = (m, i)
    into (G, g) ((inr q, i), k) = absurd (k (ap₂ {C = Member} (λ a b. (a, b)) q i))

    from : (m : Member) → Focused S m → without (Focused (S plus F)) (F, 1) m
    from (G, g) (m, i) = ((inl m, i), λ q. n (subst S (ap (λ (x : Member). x.0) q) m))

plus_same : {S R : Set Member} (x : Member) → Same S R → Same (S plus x) (R plus x)
plus_same {S} {R} x s = record { into = half s.into; from = half s.from }
  where
    half : {S R : Set Member} → S ⊆ R → (S plus x) ⊆ (R plus x)
    half f m (inl k) = inl (f m k)
    half f m (inr q) = inr q

without_same : {S R : Set Member} (x : Member) → Same S R → Same (without S x) (without R x)
without_same x s = record { into = λ m (k, n). (s.into m k, n); from = λ m (k, n). (s.from m k, n) }

module _ (t : Table) where
  read_code : (e : ℕ) → read t (code e 1) ≡ member t e 1
  read_code e = ap₂ {C = Member} (λ a b. (a, b)) (ap (written t) (code_entry e 1 (omega arith))) (code_focus e 1 (omega arith))

  -- a claim's members, in focus
  focused_claim : (l : List ℕ) → Same (focused t l) (Focused (formulas t l))
  focused_claim l = record {
    into = λ (F, f) (e, m, q). let z = q ∙ read_code e in ((e, m, ap (λ (x : Member). x.0) z), ap (λ (x : Member). x.1) z);
    from = λ (F, f) ((e, m, q), i). (e, m, ap₂ {C = Member} (λ a b. (a, b)) q i ∙ sym (read_code e));
  }

  formulas_enter : (e : ℕ) (l : List ℕ) → Same (formulas t (enter e l)) (formulas t l plus written t e)
  formulas_enter e l = record { into = λ F (c, m, q). into F c ((enter_lists e l).into c m) q; from = from }
    where
      into : (F : Form) (c : ℕ) → (elements l plus e) c → F ≡ written t c → (formulas t l plus written t e) F
      into F c (inl m) q = inl (c, m, q)
      into F c (inr i) q = inr (q ∙ ap (written t) i)

      from : (F : Form) → (formulas t l plus written t e) F → formulas t (enter e l) F
      from F (inl (c, m, q)) = (c, (enter_lists e l).from c (inl m), q)
      from F (inr q) = (e, (enter_lists e l).from e (inr refl), q)

  module _ (e : ℕ) (l r : List ℕ) (p q : Proof) where
    abbrev both : Proof
    both = joined_proof t e l r p q

    module _ (C : Claimed (one_goal t l) (one_tree p)) (D : Claimed (one_goal t r) (one_tree q)) (n : 0 < length p) (m : 0 < length q) (K : Fit t e l r) where
      root_formulas : Same (sequent t both 0) (Focused (formulas t (rest t l r) plus written t e))
      unfolding joined_goal
      root_formulas = same_trans (root_claimed t e l r p q) (same_trans (focused_claim (joined_goal t e l r)) (focused_same (formulas_enter e (rest t l r))))

      root_side : Same (side t both 0) (Focused (formulas t (rest t l r)))
      root_side = same_trans (without_same (read t (code e 1)) root_formulas)
          (rw (read_code e) (focused_without (formulas t (rest t l r)) (written t e) K.apart))

      -- the children's sequents are those of the two roots
      first-is : Same (first_sequent t both 0) (focused t l)
      first-is = subst (λ (c : List ℕ). Same (image (read t) (elements c)) (focused t l)) (sym (codes_at (left e (joined_goal t e l r) p q) 0 n)) (C 0 (omega arith))

      second_is : Same (second_sequent t both 0) (focused t r)
      second_is =
          let i : length p + 1 ≡ 0 + (length p + 1) = omega arith in
          subst (λ (c : List ℕ). Same (image (read t) (elements c)) (focused t r))
          (sym (ap (λ (k : ℕ). (node both k).codes) i ∙ codes_at (right e (joined_goal t e l r) p q) 0 m))
          (D 0 (omega arith))

      -- the sequent of a child, from the goal that it proves
      child_same : (g : List ℕ) (of : ℕ → ℕ) {S : Set Member} → Same S (focused t g)
          → Same (formulas t g) (formulas t (rest t l r) plus written t (of e))
          → Same S (side t both 0 plus member t (of (entry_of_lem (code e 1))) (focus_of (code e 1)))
      child_same g of {S} c f =
          let i : member t (of (entry_of_lem (code e 1))) (focus_of (code e 1)) ≡ member t (of e) 1 =
          ap₂ {C = Member} (λ a b. (a, b)) (ap (λ (k : ℕ). written t (of k)) (code_entry e 1 (omega arith))) (code_focus e 1 (omega arith)) in
          subst (λ (x : Member). Same S (side t both 0 plus x)) (sym i)
          (same_trans c
          (same_trans (focused_claim g)
          (same_trans (focused_same f)
          (same_trans (focused_plus (formulas t (rest t l r)) (written t (of e))) (plus_same (member t (of e) 1) (same_sym root_side))))))

      pub joined_root : Keeps (one_goal t (joined_goal t e l r)) (one_tree both) 0
      joined_root = by_children (and refl
          (record {
            belongs = record {
              formula = rw (code_entry e 1 (omega arith)) (fit_formula t K);
              inside = root_formulas.from (read t (code e 1)) (inr (ap (written t) (code_entry e 1 (omega arith))), code_focus e 1 (omega arith));
            };
            of_kind = rw (code_entry e 1 (omega arith)) K.of_kind;
          })
          (child_same l (target_a t) first-is K.first)
          (child_same r (target_b t) second_is K.second))

-- fields and nodes of a half fit a file also further on
use Rattle.std.specs.Prelude.{◌≡◌, refl, Bool, true, false, ℕ, suc, ◌+◌, ◌<◌, ◌≤◌, length, get_or}
use Rattle.std.proofs.Common.{arith}
use mathlib.Core.List.{List, [], ◌∷◌}
use Rattle.verdict.specs.Lists.{Each, none, more, Rising}
use Rattle.verdict.specs.Tells.{eqb_tells, leb_tells, and_tells}
use Rattle.formula.specs.Rule
use Rattle.formula.specs.Table.{Table}
use Rattle.formula.specs.Nodes.{Proof, node}
use Rattle.formula.specs.Claim.{clm1}
use Rattle.formula.specs.Fields.{has_first_lem, has_second_lem, has_back_lem}
use Rattle.encoding.specs.Encode.{FitField}
use Rattle.claim_files.specs.ClaimFile.{FitEntries}
use Rattle.proof_files.specs.ProofFile.{FitNode}
use Rattle.writing.specs.Spelling.{spelling_of}
use Rattle.calculus.specs.Tree.{first, second}
use Rattle.calculus.specs.Paths.{ancestor_below}
use Rattle.calculus.specs.Sequents.{rule}
use Rattle.calculus.specs.CorrectNodes.{CorrectNodes}
use Rattle.calculus.specs.JudgeExact.{keeps_back}
use Rattle.joining.specs.Shift.{moved, shift}
use Rattle.joining.specs.Goals.{Members, joined_goal}
use Rattle.joining.specs.GoalLaws.{joined_members, fit_formula}
use Rattle.joining.specs.Joined.{one_goal, one_tree}
use Rattle.joining.specs.JoinedCorrect.{Halves}

pub each_by_number : {A : Type 0} {P : A → Type 0} (d : A) (l : List A) → ((i : ℕ) → i < length l → P (get_or l i d)) → Each P l
each_by_number d [] f = none
each_by_number {P = P} d (x ∷ l) f =
    let one : P x = f 0 (omega arith) in
    more one (each_by_number d l (λ i h. f (suc i) (omega arith)))

field_down : (d m : ℕ) → m + d ≤ 65536 → (b : Bool) (n : ℕ) → (b ≡ true → n < m) → FitField b n → FitField b (moved b d n)
field_down d m room true n h f = omega (arith, h refl)
field_down d m room false n h f = f

-- a node that fits does so where it stands now
pub node_down : {t : Table} {m : List ℕ} (d : ℕ) {p : Proof} → length p + d ≤ 65536 → CorrectNodes (one_goal t m) (one_tree p)
    → (v : ℕ) → v < length p → FitNode t (node p v) → FitNode t (shift d (node p v))
node_down d {p} room C v h f = record {
  known = f.known;
  fields = record {
    principal_fits = f.fields.principal_fits;
    first_fits = field_down d (length p) room (has_first_lem (rule p v)) (node p v).first
        (λ b. let (i, j) = (and_tells (leb_tells Rule.OR (rule p v)) (leb_tells (rule p v) Rule.D)).says b in C.tree.forest.inside (first h i j refl))
        f.fields.first_fits;
    second_fits = field_down d (length p) room (has_second_lem (rule p v)) (node p v).second
        (λ b. C.tree.forest.inside (second h ((eqb_tells (rule p v) Rule.AND).says b) refl))
        f.fields.second_fits;
    back_fits = field_down d (length p) room (has_back_lem (rule p v)) (node p v).back
        (λ b. let k = keeps_back ((eqb_tells (rule p v) Rule.BACK).says b) (C.keeps v h) in omega (arith, ancestor_below C.tree.forest k.companion))
        f.fields.back_fits;
  };
  few = f.few;
  rising = f.rising;
  members = f.members;
}

module _ {t : Table} {e : ℕ} {l r : List ℕ} {p q : Proof} (H : Halves t e l r p q) (rises : Rising l) (E : FitEntries clm1 (spelling_of t)) where
  abbrev ms : List ℕ
  ms = joined_goal t e l r

  pub members : Members t ms
  members = joined_members t e l r H.first_members (fit_formula t H.fit)

-- two goals over one table with their proofs: 73, and then the whole
use Rattle.std.specs.Prelude.{◌≡◌, true, false, List, ℕ, ◌+◌, ◌*◌, ◌-◌, ◌<◌, ◌≤◌, length, take}
use Rattle.std.proofs.Math.Path.{refl}
use Rattle.std.proofs.Common.{ap, subst, inl, inr, arith}
use Rattle.verdict.specs.Verdict.{refused, pick}
use Rattle.verdict.specs.Lists.{Rising}
use Rattle.verdict.specs.Sets.{elements, ◌plus◌}
use Rattle.encoding.specs.File as file
use Rattle.encoding.specs.File.{Reading, good}
use Rattle.formula.specs.Table.{Table}
use Rattle.formula.specs.Members.{kind_formula}
use Rattle.formula.specs.Nodes.{Proof}
use Rattle.formula.specs.Plain.{table_of, table_of_length}
use Rattle.reader.specs.Files.{firstly}
use Rattle.sequents.specs.Part.{part, part_length}
use Rattle.sequents.specs.Placed as placed
use Rattle.sequents.specs.declared.numbered.NumberedTable.{NumberedTable}
use Rattle.numbers.specs.Numbered.{Numberable}
use Rattle.joining.specs.Goals.{rest, joined_goal}
use Rattle.joining.specs.GoalLaws.{enter_lists, rest_members, joined_length}
use Rattle.joining.specs.FitTest.{fits}
use Rattle.joining.specs.Joined.{claim_bytes}
use Rattle.joining.specs.Lengths.{claim_length}
use Rattle.joining.specs.Answer.{sized}
use Rattle.fitting.specs.Fitting.{Goals, GoalJoined, fit_says}
use Rattle.demands.specs.Join.{Whole}
use Rattle.joined_files.specs.Ready.{HalfProof, Ready, whole, laid_down}

-- the table in columns, the members of each goal within a list, and the first claim's length
pub record Paired (ks xs ys : List ℕ) (n len : ℕ) (ms : List ℕ) (i j : ℕ) (os : List ℕ) (h k : ℕ) (first second : List ℕ) : Type 0 where
  pub table : Numberable ks xs ys n
  pub first_goal : placed.Members n ms i j
  pub few : j ≤ i + 24
  pub rising : Rising (part ms i j)
  pub second_goal : placed.Members n os h k
  pub long : len ≡ length (claim_bytes (table_of ks xs ys n) (part ms i j))
  pub near : len ≤ 1592
  pub first_proof : HalfProof first
  pub second_proof : HalfProof second

module _ (t : Table) (l r : List ℕ) (p q : Proof) (e claim_room proof_room : ℕ) where
  -- 73, then 74 and 70
  unfoldable pub fitted : Reading Whole
  unfolding fits joined_goal sized
  fitted = firstly (pick (fits t e l r) (sized t (joined_goal t e l r) p q e claim_room proof_room) (refused 73 e)) (good (whole t (joined_goal t e l r) p q e))

  pub unfit : fits t e l r ≡ false → fitted ≡ file.refused 73 e
  unfolding fitted
  unfit h = rw h refl

  pub fit : fits t e l r ≡ true → fitted ≡ laid_down t (joined_goal t e l r) p q e claim_room proof_room
  unfolding fitted
  fit h = rw h refl

pub fitted_as : {t t' : Table} {l l' r r' : List ℕ} {p p' q q' : Proof} → t ≡ t' → l ≡ l' → r ≡ r' → p ≡ p' → q ≡ q'
    → (e claim_room proof_room : ℕ) → fitted t l r p q e claim_room proof_room ≡ fitted t' l' r' p' q' e claim_room proof_room
fitted_as i j k m n e claim_room proof_room = rw (i, j, k, m, n) refl

-- of a numbered table
pub goals_given : {t : NumberedTable} {len : ℕ} {ms : List ℕ} {i j : ℕ} {os : List ℕ} {h k : ℕ} {first second : List ℕ}
    → Paired t.columns.kinds.now t.columns.a.now t.columns.b.now t.columns.count len ms i j os h k first second → Goals t ms i j os h k
goals_given P = record { well = P.table.wf; first = P.first_goal; few = P.few; rising = P.rising; second = P.second_goal }

module _ {ks xs ys : List ℕ} {n len : ℕ} {ms : List ℕ} {i j : ℕ} {os : List ℕ} {h k : ℕ} {first second : List ℕ}
    (P : Paired ks xs ys n len ms i j os h k first second) where
  abbrev t : Table
  t = table_of ks xs ys n

  abbrev l : List ℕ
  l = part ms i j

  abbrev r : List ℕ
  r = part os h k

  module _ {e m : ℕ} {new : List ℕ} (J : GoalJoined t e l r m new) where
    entry_inside : e < n
    entry_inside =
        let a = (fit_says t e l r J.fit).0 in
        omega (arith, (kind_formula t e (λ z. omega (arith, a)) (λ z. omega (arith, a))).inside, table_of_length ks xs ys n)

    member_small : (x : ℕ) → elements (joined_goal t e l r) x → x < 256
    unfolding joined_goal
    member_small x z = go ((enter_lists e (rest t l r)).into x z)
      where
        go : (elements (rest t l r) plus e) x → x < 256
        go (inl y) = omega (arith, P.first_goal.inside x (rest_members t l r x y), P.table.small)
        go (inr y) = omega (arith, entry_inside, P.table.small)

    pub goal_count : (0 < m) × (m ≤ 24)
    goal_count =
        let many = joined_length t e l r in
        (omega (arith, J.many), omega (arith, J.many, (fit_says t e l r J.fit).1))

    -- the members alone change the claim's length
    pub longer : length (claim_bytes t (take m new)) + 2 * (j - i) ≡ len + 2 * m
    longer =
        let goal : length (claim_bytes t (take m new)) ≡ length (claim_bytes t (joined_goal t e l r)) = ap (λ (g : List ℕ). length (claim_bytes t g)) J.stands in
        omega (arith, claim_length t l (joined_goal t e l r), part_length ms i j P.first_goal.long, J.many, P.long)

    pub ready : Ready e ks xs ys n (len + 2 * m - 2 * (j - i)) new m first second
    ready = record {
      entries = P.table.small;
      entry = omega (arith, entry_inside, P.table.small);
      members = record { few = goal_count.1; long = J.long; small = λ x z. member_small x (subst (λ (g : List ℕ). elements g x) J.stands z) };
      some = goal_count.0;
      long = omega (arith, longer);
      near = omega (arith, P.near, goal_count.1);
      first_proof = P.first_proof;
      second_proof = P.second_proof;
    }

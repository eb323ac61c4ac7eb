-- counts in and out of their ranges, and what follows a count in range
use Rattle.std.specs.Prelude.{◌≡◌, refl, List, ℕ, ◌+◌, ◌<◌, ◌≤◌, length, get_or, take}
use Rattle.std.proofs.Common.{sym, ◌∙◌, arith, eq-eqb, ne_eqb}
use Rattle.verdict.specs.Tells.{and_tells, eqb_tells, fails_holds}
use Rattle.formula.specs.Table.{Table}
use Rattle.formula.specs.Claim.{Form, clm1, clm2, fewest}
use Rattle.formula.specs.Records.{NodeRecord}
use Rattle.encoding.specs.Encode.{Counts}
use Rattle.proof_files.specs.ReadProof.{is_code_lem}
use Rattle.writing.specs.Goals.{total}
use Rattle.writing.specs.Ends.{next, stop, go_on}
use Rattle.writing.specs.FieldEnds.{out_of_range, inside, rising_end}
use Rattle.writing.specs.EntryEnds.{entries_end}
use Rattle.writing.specs.GoalEnds.{members_end, listed_end, lists_end, goals_end}
use Rattle.writing.specs.ClaimEnds.{claim_end}
use Rattle.writing.specs.NodeEnds.{sequent_end}
use Rattle.writing.specs.ProofEnds.{nodes_end, roots_end, proof_end}
use Rattle.vetting.specs.GoalWalk.{total-one, lists_one}

-- the member count, then the members
module _ (es : Table) (k : ℕ) (ms : List ℕ) (at : ℕ) where
  pub listed_out : (Counts 1 24 k → ⊥) → listed_end es k ms at ≡ stop 12 at
  listed_out h = rw (out_of_range 1 24 k h) refl

  pub listed_in : Counts 1 24 k → listed_end es k ms at ≡ members_end es ms (at + 2)
  listed_in h = rw (inside 1 24 k h) refl

-- in CLM1 one goal, whose size is the number of members; in CLM2 the goal count, then the sum of the sizes, then the goals
module _ (es : Table) (gs ms : List ℕ) (at : ℕ) where
  pub goal_unfit : (length gs ≡ 1 → get_or gs 0 0 ≡ length ms → ⊥) → goals_end clm1 es gs ms at ≡ stop 12 at
  goal_unfit h = rw (fails_holds (and_tells (eqb_tells (length gs) 1) (eqb_tells (total gs) (length ms))) (λ (a, b). h a (sym (total-one gs a) ∙ b))) refl

  pub goal_fits : length gs ≡ 1 → get_or gs 0 0 ≡ length ms → goals_end clm1 es gs ms at ≡ listed_end es (length ms) (take (length ms) ms) at
  goal_fits a b = rw (eq-eqb (length gs) 1 a, eq-eqb (total gs) (length ms) (total-one gs a ∙ b), ← b) (lists_one es gs ms at a)

  pub goals_out : 16 < length gs → goals_end clm2 es gs ms at ≡ stop 72 at
  goals_out h = rw (out_of_range 0 16 (length gs) (λ k. omega (arith, k.1))) refl

  module _ (few : length gs ≤ 16) where
    pub goals_unfit : (total gs ≡ length ms → ⊥) → goals_end clm2 es gs ms at ≡ stop 12 at
    goals_unfit h = rw (inside 0 16 (length gs) (omega arith, few), ne_eqb (total gs) (length ms) h) refl

    pub goals_fit_lem : total gs ≡ length ms → goals_end clm2 es gs ms at ≡ lists_end es gs ms (at + 2)
    goals_fit_lem h = rw (inside 0 16 (length gs) (omega arith, few), eq-eqb (total gs) (length ms) h) refl

-- the entry count, then the entries, then the goals
module _ (f : Form) (n : ℕ) (es : Table) (gs ms : List ℕ) where
  pub claim_out : (Counts (fewest f) 256 n → ⊥) → claim_end f n es gs ms ≡ stop 12 4
  claim_out h = rw (out_of_range (fewest f) 256 n h) refl

  pub claim_in : Counts (fewest f) 256 n → claim_end f n es gs ms ≡ go_on (entries_end es 6) (λ o. goals_end f es gs ms o)
  claim_in h = rw (inside (fewest f) 256 n h) refl

-- no codes, or their count and then the codes
module _ (t : Table) (n : ℕ) (cs : List ℕ) (at : ℕ) where
  pub sequent_none : n ≡ 0 → sequent_end t n cs at ≡ next at
  sequent_none h = rw (eq-eqb n 0 h) refl

  pub sequent_out : 24 < n → sequent_end t n cs at ≡ stop 32 at
  sequent_out h = rw (ne_eqb n 0 (λ z. omega arith), out_of_range 1 24 n (λ k. omega (arith, k.1))) refl

  pub sequent_in : Counts 1 24 n → sequent_end t n cs at ≡ rising_end (is_code_lem t) 34 cs (at + 1)
  sequent_in h = rw (ne_eqb n 0 (λ z. omega (arith, h.0)), inside 1 24 n h) refl

-- the node count, then the roots, then the nodes
module _ (f : Form) (k : ℕ) (t : Table) (n : ℕ) (os : List ℕ) (vs : List NodeRecord) (cs : List ℕ) where
  pub proof_out : (Counts (fewest f) 1024 n → ⊥) → proof_end f k t n os vs cs ≡ stop 32 4
  proof_out h = rw (out_of_range (fewest f) 1024 n h) refl

  pub proof_in : Counts (fewest f) 1024 n → proof_end f k t n os vs cs ≡ go_on (roots_end f k n os 6) (λ o. nodes_end t vs cs o)
  proof_in h = rw (inside (fewest f) 1024 n h) refl

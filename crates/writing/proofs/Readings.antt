-- what the reader makes of records is what the walks over them say, and a judge after the walk
use Rattle.std.specs.Prelude.{◌≡◌, List, [], Bool, length, take}
use Rattle.std.proofs.Math.Path.{refl, ap}
use Rattle.std.proofs.Common.{sym, ◌∙◌, arith, ne_eqb}
use Rattle.std.proofs.Math.Bool.{true, false}
use Prim.Native.Nat.{ℕ, zero, suc, ◌+◌}
use Rattle.verdict.specs.Verdict as verdicts
use Rattle.verdict.specs.Verdict.{Verdict, accepted}
use Rattle.formula.specs.Table.{Table}
use Rattle.formula.specs.Claim.{Form, clm1, clm2, fewest, Claim, SpelledClaim, Derivation}
use Rattle.conditions.specs.Judge.{plainly, judge_table}
use Rattle.encoding.specs.Parse.{pick, in_range}
use Rattle.encoding.specs.File.{Reading, good}
use Rattle.claim_files.specs.ReadClaim.{read_claim_lem}
use Rattle.proof_files.specs.ReadProof.{read_proof}
use Rattle.reader.specs.Files.{firstly, and_then, formed, read_formed_lem}
use Rattle.writing.specs.RecordBytes.{claim_head, split, proof_head}
use Rattle.writing.specs.Goals.{goals_fit, root_count, roots_fit, roots_of}
use Rattle.writing.specs.Spelling.{spelled_claim}
use Rattle.writing.specs.Writing.{ClaimRecords, ProofRecords, claim_file, proof_file, short_claim, stopped, goal_place, claim_reading, proof_reading}
use Rattle.writing.specs.Ends.{End, next, stop, go_on, cut_end, read_by}
use Rattle.writing.specs.EntryEnds.{table_end, table_past, table_refused}
use Rattle.writing.specs.GoalEnds.{lists_end, goal_number, goal_count_end}
use Rattle.writing.specs.ClaimEnds.{claim_end}
use Rattle.writing.proofs.ClaimEnds.{claim_ends, claim_cut}
use Rattle.writing.specs.ProofEnds.{nodes_end, proof_end}
use Rattle.writing.proofs.ProofEnds.{proof_ends, proof_cut}
use Rattle.writing.specs.ClaimTrips.{claim_of, long_enough, formed_spelled}
use Rattle.writing.specs.ProofTrips.{derivation_of, LongProof, nodes_long}
use Rattle.writing.specs.Encoded.{judged, claim_judged}

-- the reading of a claim's records, 20, 71 and 21 to 23 included
then_table : (f : Form) (t : Table) (goals : List (List ℕ)) (e : End)
    → and_then (read_by (spelled_claim f t goals) e) formed ≡ read_by (record { form = f; entries = t; goals = goals }) (go_on e (judged (judge_table plainly t)))
then_table f t goals (stop n q) = refl
then_table f t goals (next o) = formed_spelled f t goals ∙ go (record { form = f; entries = t; goals = goals }) (judge_table plainly t)
  where
    go : (c : Claim) (v : Verdict) → firstly v (good c) ≡ read_by c (judged v o)
    go c accepted = refl
    go c (verdicts.refused n q) = refl

module _ (f : Form) (c : ClaimRecords) (long : short_claim c ≡ false) where
  abbrev es : Table
  es = take c.count c.entries

  -- counts that do not fit are refused after 12 and 13 of the entries and 72, at the place of the goal count
  unfit_reading : goals_fit f c.counts c.members ≡ false
      → stopped {B = Claim} 11 12 (goal_place c) (read_claim_lem (claim_head f c.count es (length c.counts))) ≡ read_by (claim_of f c) (claim_judged f c.count es c.counts c.members)
  unfolding lists_end
  unfit_reading unfit =
      ap (stopped 11 12 (goal_place c)) (claim_cut f c.count es (long_enough c long) (length c.counts)) ∙ rw unfit (by_table (table_end f c.count es 4) refl)
    where
      ended : (k u o : ℕ) → goal_place c ≡ o
          → stopped {B = Claim} 11 12 (goal_place c) (read_by (spelled_claim f es []) (cut_end 11 k u)) ≡ read_by (claim_of f c) (go_on (stop 12 o) (judged (judge_table plainly es)))
      ended zero u o there = rw there refl
      ended (suc k) u o there = rw there refl

      by_goals : (g : Form) (o : ℕ) → goal_place c ≡ o
          → stopped {B = Claim} 11 12 (goal_place c) (read_by (spelled_claim f es []) (go_on (goal_count_end g (length c.counts) o) (λ u. cut_end 11 (goal_number g (length c.counts)) u)))
          ≡ read_by (claim_of f c) (go_on (go_on (goal_count_end g (length c.counts) o) (λ u. stop 12 o)) (judged (judge_table plainly es)))
      by_goals clm1 o there = ended 1 o o there
      by_goals clm2 o there = go (in_range 0 16 (length c.counts))
        where
          go : (b : Bool) → stopped {B = Claim} 11 12 (goal_place c) (read_by (spelled_claim f es []) (go_on (pick b (next (o + 2)) (stop 72 o)) (λ u. cut_end 11 (length c.counts) u)))
              ≡ read_by (claim_of f c) (go_on (go_on (pick b (next (o + 2)) (stop 72 o)) (λ u. stop 12 o)) (judged (judge_table plainly es)))
          go true = ended (length c.counts) (o + 2) o there
          go false = refl

      by_table : (e : End) → table_end f c.count es 4 ≡ e
          → stopped {B = Claim} 11 12 (goal_place c)
          (read_by (spelled_claim f es []) (go_on e (λ o. go_on (goal_count_end f (length c.counts) o) (λ u. cut_end 11 (goal_number f (length c.counts)) u))))
          ≡ read_by (claim_of f c) (go_on (go_on e (λ o. go_on (goal_count_end f (length c.counts) o) (λ u. stop 12 o))) (judged (judge_table plainly es)))
      by_table (stop m q) h = rw (ne_eqb m 11 (λ z. omega (arith, (table_refused f c.count es h).0))) refl
      by_table (next o) h = by_goals f o (sym (table_past f c.count es o h).1)

  pub claim_reading_lem : claim_reading f c ≡ read_by (claim_of f c) (claim_judged f c.count es c.counts c.members)
  unfolding claim_reading lists_end
  claim_reading_lem = go (goals_fit f c.counts c.members) refl
    where
      go : (fit : Bool) → goals_fit f c.counts c.members ≡ fit
          → pick fit (read_formed_lem (claim_file f c)) (stopped 11 12 (goal_place c) (read_claim_lem (claim_head f c.count es (length c.counts))))
          ≡ read_by (claim_of f c) (claim_judged f c.count es c.counts c.members)
      go true fit =
          ap (λ (r : Reading SpelledClaim). and_then r formed) (claim_ends f c.count es (long_enough c long) c.counts c.members fit)
          ∙ then_table f es (split c.counts c.members) (claim_end f c.count es c.counts c.members)
      go false unfit = unfit_reading unfit

-- the reading of a proof's records beside a claim
module _ (k : Claim) (d : ProofRecords) (long : LongProof d) where
  abbrev walked : End
  walked = proof_end k.form (length k.goals) k.entries d.count d.roots (take d.count d.nodes) d.codes

  pub proof_reading_lem : proof_reading k.form d k ≡ read_by (derivation_of k.form d) walked
  unfolding proof_reading nodes_end
  proof_reading_lem = go (roots_fit k.form (length k.goals) d.roots) refl
    where
      unfit : (b : Bool) (r n : ℕ) (x : Derivation)
          → stopped {B = Derivation} 31 34 6 (read_by x (go_on (pick b (next 6) (stop 32 4)) (λ o. go_on (cut_end 31 r o) (λ u. cut_end 31 n u))))
          ≡ read_by (derivation_of k.form d) (go_on (pick b (next 6) (stop 32 4)) (λ o. stop 34 o))
      unfit false r n x = refl
      unfit true zero zero x = refl
      unfit true zero (suc n) x = refl
      unfit true (suc r) n x = refl

      go : (fit : Bool) → roots_fit k.form (length k.goals) d.roots ≡ fit
          → pick fit (read_proof k (proof_file k.form d)) (stopped 31 34 6 (read_proof k (proof_head k.form d.count))) ≡ read_by (derivation_of k.form d) walked
      go true fit = proof_ends k d.count d.roots (take d.count d.nodes) d.codes (nodes_long d long) long.codes fit
      go false h =
          ap (stopped 31 34 6) (proof_cut k d.count)
          ∙ rw h (unfit (in_range (fewest k.form) 1024 d.count) (root_count k.form (length k.goals)) d.count (record { roots = roots_of k.form []; nodes = [] }))

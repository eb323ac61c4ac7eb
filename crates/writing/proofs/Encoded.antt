-- records that every judge lets pass, 20, 71, 21 to 23 and 35 included, are encoded as the files of what they stand for
use Rattle.std.specs.Prelude.{◌≡◌, ℕ, ◌+◌, ◌*◌, ◌≤◌, length}
use Rattle.std.proofs.Math.Path.{refl, ap}
use Rattle.std.proofs.Common.{◌∙◌, arith}
use mathlib.Core.List.{List}
use Rattle.std.proofs.lemmas.List.{length-map}
use Rattle.formula.specs.Table.{Table}
use Rattle.formula.specs.Claim.{Form, clm1, clm2, fewest}
use Rattle.formula.specs.Records.{NodeRecord}
use Rattle.conditions.specs.Judge.{plainly, judge_table}
use Rattle.claim_files.specs.ClaimFile.{GoalCount, encode_claim}
use Rattle.proof_files.specs.ProofFile.{encode_roots, encode_proof}
use Rattle.tree.specs.Owners.{tree_judged}
use Rattle.writing.specs.RecordBytes.{claim_bytes, split, root_bytes, proof_bytes}
use Rattle.writing.specs.Goals.{roots_of, split_count, split_few}
use Rattle.writing.specs.Spelling.{spelled_as, spelled_claim}
use Rattle.writing.specs.Ends.{next, walk, went}
use Rattle.writing.specs.FieldEnds.{count_end}
use Rattle.writing.specs.EntryEnds.{entries_end, table_end}
use Rattle.writing.specs.GoalEnds.{goals_end}
use Rattle.writing.specs.ClaimEnds.{claim_end}
use Rattle.writing.proofs.ClaimEnds.{claim_passed}
use Rattle.writing.specs.ProofEnds.{nodes_over, proof_end}
use Rattle.writing.proofs.ProofEnds.{proof_passed}
use Rattle.writing.specs.ClaimTrips.{clipped_same}
use Rattle.writing.proofs.ClaimTrips.{goals_encoded}
use Rattle.writing.specs.ProofTrips.{over_records}
use Rattle.writing.specs.Encoded.{ClaimPasses, ProofPasses, claim_judged, entries_encoded, judged_next, nodes_encoded, nodes_few, proof_judged}

pub claim_encoded : (f : Form) (n : ℕ) (es : Table) (gs ms : List ℕ) (o : ℕ) → length es ≡ n → claim_end f n es gs ms ≡ next o
    → claim_bytes f n es (split gs ms) ≡ encode_claim (spelled_claim f es (split gs ms))
unfolding walk
claim_encoded f n es gs ms o long h =
    let p = claim_passed f n es gs ms o h in
    let table = went (table_end f n es 4) (λ o. goals_end f es gs ms o) h in
    let some = went (count_end (fewest f) 256 12 n 4) (λ o. entries_end es o) table.first in
    let i : n ≤ 65535 = omega (arith, p.entries.1) in
    let many : GoalCount f (length (split gs ms)) = rw (split_count gs ms) p.goals in
    rw (
      clipped_same n i,
      entries_encoded es some.place table.place some.then,
      goals_encoded f (split gs ms) many (split_few p.few ms),
      length-map es spelled_as,
      long,
    ) refl

-- the roots of the trees are encoded as those that are given
roots_encoded : (f : Form) (os : List ℕ) → root_bytes f os ≡ encode_roots f (roots_of f os)
roots_encoded clm1 os = refl
roots_encoded clm2 os = refl

module _ (f : Form) (k : ℕ) (t : Table) (n : ℕ) (os : List ℕ) (vs : List NodeRecord) (cs : List ℕ) (same : n ≤ 1024 → length vs ≡ n) (codes : 24576 ≤ length cs) where
  proof_encoded : (o : ℕ) → proof_end f k t n os vs cs ≡ next o → proof_bytes f n os vs cs ≡ encode_proof f (record { roots = roots_of f os; nodes = nodes_over vs cs })
  proof_encoded o h =
      let p = proof_passed f k t n os vs cs same codes o h in
      let long : 24 * length vs ≤ length cs = omega (arith, same p.nodes.1, p.nodes.1) in
      let i : n ≤ 65535 = omega (arith, p.nodes.1) in
      let (_, many, _) = over_records t vs cs (6 + 2 * length os) o long p.walked in
      rw (clipped_same n i, many, same p.nodes.1, nodes_encoded t vs cs (6 + 2 * length os) o long p.walked, roots_encoded f os) refl

pub claim_passes : (f : Form) (n : ℕ) (t : Table) (gs ms : List ℕ) {o : ℕ} → length t ≡ n → claim_judged f n t gs ms ≡ next o → ClaimPasses f n t gs ms o
claim_passes f n t gs ms {o} long h =
    let (walked, _) = judged_next (claim_end f n t gs ms) (judge_table plainly t) h in
    let p = claim_passed f n t gs ms o walked in
    let same = claim_encoded f n t gs ms o long walked in
    record { entries = p.entries.1; goals = p.goals; fit = p.fit; few = p.few; encoded = same; end = p.end ∙ ap length same }

pub proof_passes : (f : Form) (k : ℕ) (t : Table) (n : ℕ) (os : List ℕ) (vs : List NodeRecord) (cs : List ℕ) {o : ℕ} → (n ≤ 1024 → length vs ≡ n) → 24576 ≤ length cs
    → proof_judged f k t n os vs cs ≡ next o → ProofPasses f k t n os vs cs o
proof_passes f k t n os vs cs {o} same codes h =
    let (walked, tree) = judged_next (proof_end f k t n os vs cs) (tree_judged (roots_of f os) (nodes_over vs cs)) h in
    let p = proof_passed f k t n os vs cs same codes o walked in
    let bytes = proof_encoded f k t n os vs cs same codes o walked in
    record {
      walked = walked;
      tree = tree;
      nodes = p.nodes.1;
      fit = p.fit;
      few = nodes_few t vs cs (6 + 2 * length os) o (omega (arith, same p.nodes.1, p.nodes.1)) p.walked;
      encoded = bytes;
      end = p.end ∙ ap length bytes;
    }

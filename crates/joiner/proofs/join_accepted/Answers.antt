-- `join_accepted` meets its contract: both claims are held, 73 where their tables differ, and else what goals over one table get.
use mathlib.Core.Path.{sym, ◌∙◌}
use lib.ListN.{length}
use Rattle.encoding.specs.Encode.{Bytes}
use Rattle.encoding.specs.ByteLaws.{lent_bytes}
use Rattle.demands.specs.JoinExact.{CorrectHalf}
use Rattle.demands.proofs.JoinExact.{half_accepts}
use Rattle.joined_files.specs.Wholly.{wholly_refused, wholly_as}
use Rattle.joiner.specs.Reading.{both_read, paired, other_entries, one_table, one_fitted}
use Rattle.joiner.proofs.join_accepted.Goals as goal
use Rattle.joiner.proofs.join_accepted.Goals.{After-read_half-entries}

-- the four lent files, and that both inputs are accepted
module _ (c : After-read_half-entries) where
  claim_bytes_lem : Bytes c.args.claim1.now
  claim_bytes_lem = lent_bytes _ c.type_inv.claim1

  proof_bytes_lem : Bytes c.args.proof1.now
  proof_bytes_lem = lent_bytes _ c.type_inv.proof1

  other-claim-bytes : Bytes c.args.claim2.now
  other-claim-bytes = lent_bytes _ c.type_inv.claim2

  other-proof-bytes : Bytes c.args.proof2.now
  other-proof-bytes = lent_bytes _ c.type_inv.proof2

  first : CorrectHalf c.args.claim1.now c.args.proof1.now
  first = (half_accepts _ _ claim_bytes_lem proof_bytes_lem).0 c.requires.0

  second : CorrectHalf c.args.claim2.now c.args.proof2.now
  second = (half_accepts _ _ other-claim-bytes other-proof-bytes).0 c.requires.1

pub invariant_of-table : goal.invariant_of-table
invariant_of-table c =
    let x = first (goal.at.invariant_of-table c).After-read_half-entries in
    record { few = (c.read_half-entries.ensures x.correct.read.claim x.correct.formed.claim_formed x.one).entries }

pub returns-then-not-same_entries : goal.returns-then-not-same_entries
returns-then-not-same_entries c =
    let x = first (goal.at.returns-then-not-same_entries c).After-read_half-entries in
    let y = second (goal.at.returns-then-not-same_entries c).After-read_half-entries in
    let held = c.read_half-entries.ensures x.correct.read.claim x.correct.formed.claim_formed x.one in
    let other = c.read_half-other_entries.ensures y.correct.read.claim y.correct.formed.claim_formed y.one in
    let differ = sym c.if-not-same_entries.true ∙ c.same_entries.ensures in
    wholly_refused
    (both_read x y (claim_bytes_lem (goal.at.returns-then-not-same_entries c).After-read_half-entries) (proof_bytes_lem (goal.at.returns-then-not-same_entries c).After-read_half-entries) (other-claim-bytes (goal.at.returns-then-not-same_entries c).After-read_half-entries) (other-proof-bytes (goal.at.returns-then-not-same_entries c).After-read_half-entries) c.args.entry _ _
    ∙ other_entries x y held other c.args.entry (length c.args.claim.now) (length c.args.proof.now) differ)
    c.refuse.ensures

pub join_goals_of-requires : goal.join_goals_of-requires
join_goals_of-requires c =
    let x = first (goal.at.join_goals_of-requires c).After-read_half-entries in
    let y = second (goal.at.join_goals_of-requires c).After-read_half-entries in
    let held = c.read_half-entries.ensures x.correct.read.claim x.correct.formed.claim_formed x.one in
    let other = c.read_half-other_entries.ensures y.correct.read.claim y.correct.formed.claim_formed y.one in
    let same = sym c.if-not-same_entries.false ∙ c.same_entries.ensures in
    rw (c.wide.ensures, c.wide-2.ensures, c.wide-3.ensures, c.wide-4.ensures) (
    paired x y held other (one_table x y held other c.args.entry (length c.args.claim.now) (length c.args.proof.now) same)
    )

pub returns : goal.returns
returns c =
    let x = first (goal.at.returns c).After-read_half-entries in
    let y = second (goal.at.returns c).After-read_half-entries in
    let held = c.read_half-entries.ensures x.correct.read.claim x.correct.formed.claim_formed x.one in
    let other = c.read_half-other_entries.ensures y.correct.read.claim y.correct.formed.claim_formed y.one in
    let same = sym c.if-not-same_entries.false ∙ c.same_entries.ensures in
    wholly_as
    (both_read x y (claim_bytes_lem (goal.at.returns c).After-read_half-entries) (proof_bytes_lem (goal.at.returns c).After-read_half-entries) (other-claim-bytes (goal.at.returns c).After-read_half-entries) (other-proof-bytes (goal.at.returns c).After-read_half-entries) c.args.entry _ _
    ∙ one_fitted x y held other c.args.entry (length c.args.claim.now) (length c.args.proof.now) same)
    (rw (c.wide.ensures, c.wide-2.ensures, c.wide-3.ensures, c.wide-4.ensures) at c.join_goals_of.ensures)

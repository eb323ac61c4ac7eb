-- A refusal stands. Else both files are read, and each stage asks what the one before it left.
use Rattle.std.specs.Prelude.{[]}
use Rattle.verdict.specs.Shown.{shown}
use Rattle.verdict.proofs.PassedOn.{passed_on}
use Rattle.lent_files.specs.LentJudged.{nothing_refused, refusal_stands, may_store, may_load, may_judge, lent_judged}
use Rattle.lent_files.proofs.judge_read.Goals as goal

pub returns-in_err-counts : goal.returns-in_err-counts
returns-in_err-counts c =
    let told = c.in_err-counts.ensures in
    rw (passed_on _ c.from_residual.ensures.1) (record {
      judged = refusal_stands _ _ [] [] [] [] [] [] c.args.entries.now c.args.nodes.now c.args.codes.now (shown c.args.before) told.told;
      claim_bytes_lem = told.claim_bytes_lem;
      proof_bytes_lem = told.proof_bytes_lem;
    })

pub store_entries-requires : goal.store_entries-requires
store_entries-requires c =
    let told = c.in_ok-counts.ensures in
    let g = nothing_refused _ _ _ _ _ _ _ _ _ told.told in
    may_store _ _ told.claim_bytes_lem told.proof_bytes_lem g.1 (c.requires g.0)

pub load_entries-requires : goal.load_entries-requires
load_entries-requires c =
    let told = c.in_ok-counts.ensures in
    let g = nothing_refused _ _ _ _ _ _ _ _ _ told.told in
    may_load _ _ told.claim_bytes_lem told.proof_bytes_lem g.1 (c.requires g.0) c.store_entries.ensures

pub judge_stored-requires : goal.judge_stored-requires
judge_stored-requires c =
    let told = c.in_ok-counts.ensures in
    let g = nothing_refused _ _ _ _ _ _ _ _ _ told.told in
    may_judge _ _ told.claim_bytes_lem told.proof_bytes_lem g.1 (c.requires g.0) c.store_entries.ensures c.load_entries.ensures

pub returns : goal.returns
returns c =
    let told = c.in_ok-counts.ensures in
    let g = nothing_refused _ _ _ _ _ _ _ _ _ told.told in
    record {
      judged = lent_judged _ _ told.claim_bytes_lem told.proof_bytes_lem g.1 (c.requires g.0) c.store_entries.ensures c.load_entries.ensures g.0 c.judge_stored.ensures;
      claim_bytes_lem = told.claim_bytes_lem;
      proof_bytes_lem = told.proof_bytes_lem;
    }

pub invariant_of-columns : goal.invariant_of-columns
invariant_of-columns c = record { few = (nothing_refused _ _ _ _ _ _ _ _ _ c.in_ok-counts.ensures.told).1.held.entries }

pub invariant_of-goals : goal.invariant_of-goals
invariant_of-goals c = record { held = (nothing_refused _ _ _ _ _ _ _ _ _ c.in_ok-counts.ensures.told).1.held.goals }

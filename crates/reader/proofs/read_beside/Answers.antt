-- The claim's refusal stands, then the proof's; of a proof that is read the roots are stored, and its nodes counted.
use mathlib.Core.Path.{sym}
use native.Mathlib.Omega.{arith}
use Rattle.verdict.proofs.PassedOn.{passed_on}
use Rattle.claims.specs.ClaimWalk.{claim_as_read, claim_as_refused}
use Rattle.reader.specs.FilesLaws.{unread_formed, unread_proof, kinds_decode, roots_room, both_read}
use Rattle.reader.proofs.read_beside.Goals as goal

pub returns-in_err-claim : goal.returns-in_err-claim
returns-in_err-claim c claim xs ys gs ms told =
    rw (passed_on _ c.from_residual.ensures.1) (unread_formed _ _ (claim_as_refused _ _ _ _ _ told c.in_err-claim.was))

pub judge_proof-requires : goal.judge_proof-requires
judge_proof-requires c = let few = c.requires.0 _ c.in_ok-claim.was in omega (arith, few.entries, few.goals)

pub returns-in_err-judge_proof : goal.returns-in_err-judge_proof
returns-in_err-judge_proof c claim xs ys gs ms told =
    let got = claim_as_read _ _ _ _ _ told c.in_ok-claim.was in
    rw (passed_on _ c.from_residual-in_err-judge_proof.ensures.1)
    (unread_proof _ _ got (c.in_err-judge_proof.ensures got.claim.form (sym got.form)) (omega arith, omega arith))

pub decode_roots-requires : goal.decode_roots-requires
decode_roots-requires c =
    let few = c.requires.0 _ c.in_ok-claim.was in
    let decodes = kinds_decode few.form _ _ _ _ (c.in_ok-judge_proof.ensures few.form few.number) in
    (c.requires.1, record { form = few.form; named = few.number; few = few.goals; one = few.one; long = decodes.long })

pub node_count-requires : goal.node_count-requires
node_count-requires c =
    let few = c.requires.0 _ c.in_ok-claim.was in
    let decodes = kinds_decode few.form _ _ _ _ (c.in_ok-judge_proof.ensures few.form few.number) in
    decodes.counted

pub nodes_place-requires : goal.nodes_place-requires
nodes_place-requires c = (c.requires.0 _ c.in_ok-claim.was).goals

pub returns : goal.returns
returns c claim xs ys gs ms told =
    let got = claim_as_read _ _ _ _ _ told c.in_ok-claim.was in
    let named = sym got.form in
    let rooted = c.decode_roots.ensures got.claim.form named in
    both_read _ _ got (c.in_ok-judge_proof.ensures got.claim.form named)
    rooted.held (roots_room (c.requires.0 _ c.in_ok-claim.was) named rooted) (c.nodes_place.ensures.value got.claim.form named) c.nodes_place.ensures.upper_bound (c.node_count.ensures _)

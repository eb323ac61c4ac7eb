-- `write_joined` meets its contract: 74, 70 for either slice, and then both files.
use Rattle.std.proofs.Common.{◌≡◌, refl, ap, ◌∙◌, arith, List, ℕ, ◌+◌, ◌≤◌, length, take}
use Rattle.verdict.specs.Lists.{written}
use Rattle.formula.specs.Claim.{clm1}
use Rattle.formula.specs.Plain.{table_of}
use Rattle.encoding.specs.Places.{word_at}
use Rattle.nodes.specs.ProofDecode.{proof_in, nodes_at_length}
use Rattle.joined_files.specs.Wholly.{wholly_refused, wholly_good}
use Rattle.joined_files.specs.Ready.{HalfProof, too_many, claim_short, proof_short, both_fit, proof_long, claim_is, one_goal_room}
use Rattle.joined_files.proofs.write_joined.Goals as goal
use Rattle.joined_files.proofs.write_joined.Goals.{After-node_count-2, Else-node_count-gt1024}

-- how many nodes there are
counted : (c : After-node_count-2) → (c.node_count.result ≡ length (proof_in c.args.first.now 6)) × (c.node_count-2.result ≡ length (proof_in c.args.second.now 6))
counted c = (c.node_count.ensures 6, c.node_count-2.ensures 6)

most : {t : List ℕ} → HalfProof t → length (proof_in t 6) ≤ 1024
most {t} h = omega (arith, nodes_at_length t 6 (word_at t 4), h.tree.decodes.few)

-- not too many
few : (c : Else-node_count-gt1024) → length (proof_in c.args.first.now 6) + length (proof_in c.args.second.now 6) + 1 ≤ 1024
few c = omega (arith, c.if-node_count-gt1024.false, c.node_count.ensures 6, c.node_count-2.ensures 6)

pub node_count-requires : goal.node_count-requires
node_count-requires c = c.requires.first_proof.tree.decodes.counted

pub node_count-requires-2 : goal.node_count-requires-2
node_count-requires-2 c = c.requires.second_proof.tree.decodes.counted

pub overflow_add-node_count : goal.overflow_add-node_count
overflow_add-node_count c = let p = c.requires in omega (arith, (counted (goal.at.overflow_add-node_count c).After-node_count-2).0, (counted (goal.at.overflow_add-node_count c).After-node_count-2).1, most p.first_proof, most p.second_proof)

pub overflow_add-node_count-2 : goal.overflow_add-node_count-2
overflow_add-node_count-2 c = let p = c.requires in omega (arith, (counted (goal.at.overflow_add-node_count-2 c).After-node_count-2).0, (counted (goal.at.overflow_add-node_count-2 c).After-node_count-2).1, most p.first_proof, most p.second_proof)

pub returns-then-node_count-gt1024 : goal.returns-then-node_count-gt1024
returns-then-node_count-gt1024 c =
    wholly_refused (too_many (table_of c.args.table.now.kinds.now c.args.table.now.a.now c.args.table.now.b.now c.args.table.now.count) (take c.args.members c.args.goal.now) (proof_in c.args.first.now 6) (proof_in c.args.second.now 6) c.args.entry _ _ (omega (arith, c.if-node_count-gt1024.true, (counted (goal.at.returns-then-node_count-gt1024 c).After-node_count-2).0, (counted (goal.at.returns-then-node_count-gt1024 c).After-node_count-2).1))) c.refuse.ensures

pub returns-then-claim-claim_length : goal.returns-then-claim-claim_length
returns-then-claim-claim_length c =
    wholly_refused (claim_short (table_of c.args.table.now.kinds.now c.args.table.now.a.now c.args.table.now.b.now c.args.table.now.count) (take c.args.members c.args.goal.now) (proof_in c.args.first.now 6) (proof_in c.args.second.now 6) c.args.entry _ _ (few (goal.at.returns-then-claim-claim_length c).Else-node_count-gt1024) (omega (arith, c.if-claim-claim_length.true, c.requires.long))) c.refuse-then-claim-claim_length.ensures

pub overflow_mul-proof_length : goal.overflow_mul-proof_length
overflow_mul-proof_length c = omega (arith, c.requires.members.few)

pub overflow_add-proof_length-2 : goal.overflow_add-proof_length-2
overflow_add-proof_length-2 c = omega (arith, c.requires.members.few, c.requires.first_proof.near, c.requires.second_proof.near)

pub overflow_add-proof_length-3 : goal.overflow_add-proof_length-3
overflow_add-proof_length-3 c = omega (arith, c.requires.members.few, c.requires.first_proof.near, c.requires.second_proof.near)

pub returns-then-proof-proof_length : goal.returns-then-proof-proof_length
returns-then-proof-proof_length c =
    wholly_refused
    (proof_short (table_of c.args.table.now.kinds.now c.args.table.now.a.now c.args.table.now.b.now c.args.table.now.count) (take c.args.members c.args.goal.now) (proof_in c.args.first.now 6) (proof_in c.args.second.now 6) c.args.entry _ _ (few (goal.at.returns-then-proof-proof_length c).Else-node_count-gt1024) (omega (arith, c.if-claim-claim_length.false, c.requires.long)) (omega (arith, c.if-proof-proof_length.true, proof_long c.requires)))
    c.refuse-then-proof-proof_length.ensures

pub overflow_cast-counts : goal.overflow_cast-counts
overflow_cast-counts c = omega (arith, c.requires.members.few)

pub put_claim-requires : goal.put_claim-requires
put_claim-requires c =
    let laid = claim_is c.requires _ refl in
    (omega (arith, ap length laid, c.requires.long, c.if-claim-claim_length.false), c.requires.entries, one_goal_room c.requires _ refl)

pub put_joined-requires : goal.put_joined-requires
put_joined-requires c =
    let p = c.requires in
    (p.members, p.entry, p.first_proof.tree, p.second_proof.tree, omega (arith, few (goal.at.put_joined-requires c).Else-node_count-gt1024), omega (arith, proof_long p, c.if-proof-proof_length.false))

pub overflow_mul-result : goal.overflow_mul-result
overflow_mul-result c = let p = c.requires in omega (arith, p.members.few, p.first_proof.near, p.second_proof.near)

pub overflow_add-result : goal.overflow_add-result
overflow_add-result c = let p = c.requires in omega (arith, p.near, p.members.few, p.first_proof.near, p.second_proof.near)

pub returns : goal.returns
returns c =
    let fits = both_fit (table_of c.args.table.now.kinds.now c.args.table.now.a.now c.args.table.now.b.now c.args.table.now.count) (take c.args.members c.args.goal.now) (proof_in c.args.first.now 6) (proof_in c.args.second.now 6) c.args.entry (length c.args.claim.now) (length c.args.proof.now) (few (goal.at.returns c).Else-node_count-gt1024) (omega (arith, c.requires.long, c.if-claim-claim_length.false)) (omega (arith, proof_long c.requires, c.if-proof-proof_length.false)) in
    wholly_good fits (omega (arith, c.requires.long, proof_long c.requires))
    (c.put_claim.ensures clm1 refl ∙ ap (λ (b : List ℕ). written b c.args.claim.now) (claim_is c.requires _ refl))
    c.put_joined.ensures

-- `join_goals_of` meets its contract: 73 where the goals do not fit, and else what the joined goal gets.
use Rattle.std.proofs.Common.{sym, ap, ◌∙◌, arith, List, ℕ, length}
use Rattle.std.proofs.Math.ListN.{length-replicate}
use Rattle.formula.specs.Plain.{table_of}
use Rattle.nodes.specs.ProofDecode.{proof_in}
use Rattle.sequents.specs.Part.{part}
use Rattle.laid.specs.Numbering.{numbers_told}
use Rattle.joined_files.specs.Wholly.{wholly_refused, wholly_as}
use Rattle.joined_files.specs.Ready.{laid_down}
use Rattle.joined_files.specs.Paired.{unfit, fit, goals_given, goal_count, longer, ready}
use Rattle.joined_files.proofs.join_goals_of.Goals as goal

pub number_formulas-requires : goal.number_formulas-requires
number_formulas-requires c = c.requires.table

pub invariant_of-numbered : goal.invariant_of-numbered
invariant_of-numbered c = record { numbers = numbers_told c.requires.table c.number_formulas.ensures }

pub join_goals-requires : goal.join_goals-requires
join_goals-requires c = (goals_given c.requires, length-replicate {A = ℕ} 24 0)

pub overflow_mul-count : goal.overflow_mul-count
overflow_mul-count c = omega (arith, (goal_count c.requires c.in-Some.ensures).1)

pub overflow_add-claim_length : goal.overflow_add-claim_length
overflow_add-claim_length c = omega (arith, c.requires.near, (goal_count c.requires c.in-Some.ensures).1)

pub overflow_sub-to : goal.overflow_sub-to
overflow_sub-to c = c.requires.first_goal.order

pub overflow_mul-to : goal.overflow_mul-to
overflow_mul-to c = omega (arith, c.requires.few)

pub overflow_sub-claim_length : goal.overflow_sub-claim_length
overflow_sub-claim_length c = omega (arith, longer c.requires c.in-Some.ensures)

pub write_joined-requires : goal.write_joined-requires
write_joined-requires c = ready c.requires c.in-Some.ensures

pub returns-in-None : goal.returns-in-None
returns-in-None c =
    wholly_refused (unfit (table_of c.args.table.now.kinds.now c.args.table.now.a.now c.args.table.now.b.now c.args.table.now.count) (part c.args.members.now c.args.from c.args.to) (part c.args.others.now c.args.others_from c.args.others_to) (proof_in c.args.first.now 6) (proof_in c.args.second.now 6) c.args.entry _ _ c.in-None.ensures) c.refuse.ensures

pub returns-in-Some : goal.returns-in-Some
returns-in-Some c =
    let joined = c.in-Some.ensures in
    wholly_as
    (fit (table_of c.args.table.now.kinds.now c.args.table.now.a.now c.args.table.now.b.now c.args.table.now.count) (part c.args.members.now c.args.from c.args.to) (part c.args.others.now c.args.others_from c.args.others_to) (proof_in c.args.first.now 6) (proof_in c.args.second.now 6) c.args.entry (length c.args.claim.now) (length c.args.proof.now) joined.fit
    ∙ ap (λ (g : List ℕ). laid_down (table_of c.args.table.now.kinds.now c.args.table.now.a.now c.args.table.now.b.now c.args.table.now.count) g (proof_in c.args.first.now 6) (proof_in c.args.second.now 6) c.args.entry (length c.args.claim.now) (length c.args.proof.now)) (sym joined.stands))
    c.write_joined.ensures

use mathlib.Core.Path.{sym}
use Rattle.permit.specs.Plain.{state_open, state_holding, state_closed}
use Rattle.granting.specs.PresentStages.{stands_closed, stands_holding, few_entries, few_nodes, few_codes, nothing_stands}
use Rattle.granting.proofs.stands_before.Goals as goal
use Rattle.granting.proofs.stands_before.Goals.{then-entries-lt256-via-then-entries-lt256, then-entries-lt256-via-else-entries-lt256+then-nodes-lt1024, then-entries-lt256-via-else-entries-lt256+else-nodes-lt1024+then-codes-lt24576}

pub returns-then-state-eq-HOLDING : goal.returns-then-state-eq-HOLDING
returns-then-state-eq-HOLDING c =
    rw c.at.ensures (sym (stands_holding c.args.entries c.args.nodes c.args.codes (state_holding c.args.state c.if-state-eq-HOLDING.true)))

pub returns-then-state-ne-OPEN : goal.returns-then-state-ne-OPEN
returns-then-state-ne-OPEN c =
    rw c.at-then-state-ne-OPEN.ensures (sym (stands_closed c.args.entries c.args.nodes c.args.codes (state_closed c.args.state c.if-state-ne-OPEN.true c.if-state-eq-HOLDING.false)))

pub returns-then-entries-lt256 : goal.returns-then-entries-lt256
returns-then-entries-lt256 c =
    let stands = state_open c.args.state c.if-state-ne-OPEN.false in
    rw c.at-then-entries-lt256.ensures (elim c.then-entries-lt256.branch [
      | then-entries-lt256-via-then-entries-lt256 w ↦ sym (few_entries c.args.entries c.args.nodes c.args.codes stands w.if-entries-lt256.true)
      | then-entries-lt256-via-else-entries-lt256+then-nodes-lt1024 w ↦ sym (few_nodes c.args.entries c.args.nodes c.args.codes stands w.if-nodes-lt1024.true)
      | then-entries-lt256-via-else-entries-lt256+else-nodes-lt1024+then-codes-lt24576 w ↦ sym (few_codes c.args.entries c.args.nodes c.args.codes stands w.if-codes-lt24576.true)
    ])

pub returns : goal.returns
returns c =
    sym (nothing_stands c.args.entries c.args.nodes c.args.codes (state_open c.args.state c.if-state-ne-OPEN.false) c.if-entries-lt256.false c.if-nodes-lt1024.false c.if-codes-lt24576.false)

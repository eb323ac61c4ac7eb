-- a back leaf keeps its rule when its companion fits and has its sequent; any other node when it keeps what it owes its children
use mathlib.Core.Path.{ap₂, sym, ◌∙◌}
use mathlib.Core.Bool.{Bool}
use Rattle.verdict.specs.Tests.{same}
use Rattle.formula.specs.Claim.{clm1}
use mathlib.Core.List.{[]}
use Prim.Native.Nat.{◌+◌, ◌*◌, ◌<◌}
use lib.ListN.{get_or}
use Rattle.principal_rules.specs.Judged.{placed, keys_here}
use Rattle.rules.specs.JudgeStages.{other_keeps, leaf_refused, companion_inside, leaf_compared}
use Rattle.rules.specs.Columned.{claim_over}
use Rattle.rules.proofs.judge.node_keeps.Goals as goal
use Rattle.rules.proofs.judge.node_keeps.Goals.{Else-not-companion}

-- where the companion fits, it is a node
companion_real : (c : Else-not-companion) → get_or c.args.proof.now.tree.links.now (4 * c.args.v + 3) 0 < c.args.proof.now.tree.nodes
companion_real c =
    let a = c.args in
    companion_inside c.requires.0 (claim_over a.table.now clm1 [] [] 0) a.v c.requires.1 c.if-rules-v-ne-BACK.false c.companion.ensures c.if-not-companion.false

pub returns-then-rules-v-ne-BACK : goal.returns-then-rules-v-ne-BACK
returns-then-rules-v-ne-BACK c f gs ms k =
    c.kept.ensures ∙ other_keeps c.requires.0.judged (claim_over c.args.table.now f gs ms k) c.args.v c.requires.1 c.if-rules-v-ne-BACK.true

pub returns-then-not-companion : goal.returns-then-not-companion
returns-then-not-companion c f gs ms k =
    sym (leaf_refused c.requires.0 (claim_over c.args.table.now f gs ms k) _ c.requires.1 c.if-rules-v-ne-BACK.false c.companion.ensures (c.if-not-companion.true))

pub same_sequent-requires : goal.same_sequent-requires
same_sequent-requires c =
    let J = c.requires.0.judged in
    (placed J c.args.v c.requires.1, rw c.wide.ensures (placed J _ (companion_real (goal.at.same_sequent-requires c).Else-not-companion)))

pub returns : goal.returns
returns c f gs ms k =
    let J = c.requires.0.judged in
    (rw c.wide.ensures at c.same_sequent.ensures)
    ∙ ap₂ {C = Bool} same (keys_here J c.args.v c.requires.1) (keys_here J _ (companion_real (goal.at.returns c).Else-not-companion))
    ∙ sym (leaf_compared c.requires.0 (claim_over c.args.table.now f gs ms k) _ c.requires.1 c.if-rules-v-ne-BACK.false c.companion.ensures (c.if-not-companion.false))

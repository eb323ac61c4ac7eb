use native.Mathlib.Omega.{arith}
use mathlib.Core.Path.{◌≡◌, refl, subst, ◌∙◌}
use Prim.Native.Nat.{ℕ, ◌<◌}
use lib.ListN.{set}
use Rattle.encoding.specs.Places.{word_at}
use Rattle.nodes.specs.ProofDecode.{proof_in, nodes_at_length}
use Rattle.nodes.specs.ProofStored.{storing_begins, storing_steps, node_fits, node_room, NodesStored, stored_nodes}
use Rattle.nodes.proofs.decode_proof.Goals as goal
use Rattle.nodes.proofs.decode_proof.Goals.{In-loop-i}

-- in a turn there is a node left
more : (c : In-loop-i) → c.loop-i.i < word_at c.args.bytes.now 4
more c = omega (arith, c.loop-i.invariant.0, c.loop-i-test.true)

pub loop-i-init : goal.loop-i-init
loop-i-init c =
    let file = c.args.bytes.now in
    (c.node_count-n.ensures 0 ∙ nodes_at_length file 0 (word_at file 4), storing_begins c.requires.0)

pub decode_node-spot-requires : goal.decode_node-spot-requires
decode_node-spot-requires c =
    let given = c.requires in
    let stored = c.loop-i.invariant.1 in
    let few = given.0.few in
    (node_fits given.0 given.2 stored (more (goal.at.decode_node-spot-requires c).In-loop-i), omega (arith, stored.near), node_room given.0 given.2 stored (more (goal.at.decode_node-spot-requires c).In-loop-i))

pub loop-i-preserved : goal.loop-i-preserved
loop-i-preserved c =
    let stored = c.loop-i.invariant in
    let given = c.requires in
    let left = c.decode_node-spot.ensures in (
      stored.0,
      storing_steps given.0 given.2 stored.1 (more (goal.at.loop-i-preserved c).In-loop-i) left.rules_after left.links_after refl left.codes_after left.at_value.0 left.at_value.1,
    )

pub returns : goal.returns
returns c =
    let a = c.args in
    let done = c.loop-i in
    let all : done.i ≡ c.node_count-n.result = omega arith in
    let last : done.i ≡ word_at a.bytes.now 4 = all ∙ done.invariant.0 in record {
      value = c.node_count-n.ensures a.at;
      nodes_stored = subst
          (λ (k : ℕ).
          NodesStored (proof_in a.bytes.now a.at) a.rules.now a.links.now a.starts.now a.codes.now
          done.rules done.links (set done.starts k done.spot.start) done.codes)
          all (stored_nodes c.requires.0 c.requires.2 done.invariant.1 last);
    }

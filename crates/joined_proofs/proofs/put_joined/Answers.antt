-- Opening and count, the new root, the first tree, then the second, one run behind the other.
use Rattle.std.proofs.Common.{arith, ◌≤◌, ◌+◌, List, ◌++◌, ℕ, length, take}
use Rattle.formula.specs.Nodes.{Proof}
use Rattle.proof_files.specs.ProofFile.{encode_node}
use Rattle.nodes.specs.ProofDecode.{proof_in}
use Rattle.laying.specs.Laying.{Put, Left, all_left, less_left, room_left, left-fits, last_left}
use Rattle.laying.specs.Files.{file_put}
use Rattle.joining.specs.Joined.{joined_root}
use Rattle.joined_proofs.specs.Parts.{opening_bytes, tree_bytes, joined_parts, joined_parts_lem, joined_fits}
use Rattle.joined_proofs.proofs.put_joined.Goals as goal
use Rattle.joined_proofs.proofs.put_joined.Goals.{After-node_count-others}

-- what is left after the opening, after the root, after the first tree
module _ (e : ℕ) (ms : List ℕ) (p q : Proof) (n m : ℕ) (out : List ℕ) where
  abbrev whole : List ℕ
  whole = joined_parts e ms p q n m

  abbrev root : List ℕ
  root = encode_node (joined_root e ms n)

  abbrev trees : List ℕ
  trees = tree_bytes 1 p ++ tree_bytes (n + 1) q

  module _ {opened : List ℕ} (a : Put out 0 (opening_bytes n m) 6 opened) where
    opening_left : Left whole 0 out (root ++ trees) 6 opened
    opening_left = less_left (opening_bytes n m) (root ++ trees) (all_left whole out 0) a

    module _ {at : ℕ} {rooted : List ℕ} (b : Put opened 6 root at rooted) where
      root_left : Left whole 0 out trees at rooted
      root_left = less_left root trees opening_left b

      first_left : {next : ℕ} {copied : List ℕ} → Put rooted at (tree_bytes 1 p) next copied → Left whole 0 out (tree_bytes (n + 1) q) next copied
      first_left d = less_left (tree_bytes 1 p) (tree_bytes (n + 1) q) root_left d

-- the nodes are counted: they are few, and the whole file fits
module _ (c : After-node_count-others) where
  few : c.node_count-nodes.result + c.node_count-others.result ≤ 1023
  few = omega (arith, c.node_count-nodes.ensures 6, c.node_count-others.ensures 6, c.requires.4)

  all_fit : 0 + length (joined_parts c.args.entry (take c.args.count c.args.members.now) (proof_in c.args.first.now 6) (proof_in c.args.second.now 6)
      c.node_count-nodes.result c.node_count-others.result) ≤ length c.args.out.now
  all_fit =
      joined_fits c.args.entry (take c.args.count c.args.members.now) (proof_in c.args.first.now 6) (proof_in c.args.second.now 6)
      (c.node_count-nodes.ensures 6) (c.node_count-others.ensures 6) c.args.out.now c.requires.5

pub put_root-at-requires : goal.put_root-at-requires
put_root-at-requires c =
    let counted = (goal.at.put_root-at-requires c).After-node_count-others in
    let e = c.args.entry in
    let ms = take c.args.count c.args.members.now in
    let p = proof_in c.args.first.now 6 in
    let q = proof_in c.args.second.now 6 in
    let n = c.node_count-nodes.result in
    let m = c.node_count-others.result in
    let out = c.args.out.now in (
      c.requires.0,
      c.requires.1,
      omega (arith, few counted),
      room_left (root e ms p q n m out) (trees e ms p q n m out) (opening_left e ms p q n m out c.open_proof.ensures) (all_fit counted),
    )

pub copy_nodes-next-requires : goal.copy_nodes-next-requires
copy_nodes-next-requires c =
    let counted = (goal.at.copy_nodes-next-requires c).After-node_count-others in
    let e = c.args.entry in
    let ms = take c.args.count c.args.members.now in
    let p = proof_in c.args.first.now 6 in
    let q = proof_in c.args.second.now 6 in
    let n = c.node_count-nodes.result in
    let m = c.node_count-others.result in
    let tree = c.requires.2 in (
      tree.decodes,
      tree.movable 1 (omega arith),
      room_left (tree_bytes 1 p) (tree_bytes (n + 1) q) (root_left e ms p q n m c.args.out.now c.open_proof.ensures c.put_root-at.ensures) (all_fit counted),
    )

pub copy_nodes-requires : goal.copy_nodes-requires
copy_nodes-requires c =
    let counted = (goal.at.copy_nodes-requires c).After-node_count-others in
    let ms = take c.args.count c.args.members.now in
    let p = proof_in c.args.first.now 6 in
    let q = proof_in c.args.second.now 6 in
    let n = c.node_count-nodes.result in
    let m = c.node_count-others.result in
    let tree = c.requires.3 in (
      tree.decodes,
      tree.movable (n + 1) (omega (arith, few counted)),
      left-fits (first_left c.args.entry ms p q n m c.args.out.now c.open_proof.ensures c.put_root-at.ensures c.copy_nodes-next.ensures) (all_fit counted),
    )

pub returns : goal.returns
returns c =
    let ms = take c.args.count c.args.members.now in
    let p = proof_in c.args.first.now 6 in
    let q = proof_in c.args.second.now 6 in
    let n = c.node_count-nodes.result in
    let m = c.node_count-others.result in
    let whole_file = joined_parts_lem c.args.entry ms p q (c.node_count-nodes.ensures 6) (c.node_count-others.ensures 6) in
    file_put whole_file c.requires.5
    (last_left (tree_bytes (n + 1) q) (first_left c.args.entry ms p q n m c.args.out.now c.open_proof.ensures c.put_root-at.ensures c.copy_nodes-next.ensures) c.copy_nodes.ensures)

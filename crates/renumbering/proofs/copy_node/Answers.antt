-- The node that the arrays hold is the one of the file, moved.
use Rattle.std.proofs.Common.{◌≡◌, ◌≤◌, sym, subst, ap, ◌∙◌, length, get_or, arith}
use Rattle.std.proofs.Math.ListN.{length-set}
use Rattle.formula.specs.Nodes.{Node}
use Rattle.proof_files.specs.ProofFile.{encode_node}
use Rattle.nodes.specs.ProofDecode.{node_at}
use Rattle.laying.specs.Laying as laying
use Rattle.laying.specs.Laying.{Fits, put_as}
use Rattle.joining.specs.Shift.{shift}
use Rattle.renumbering.specs.Copying.{NodeRead, four_links, room_for_codes, read_moves, read_moved}
use Rattle.renumbering.proofs.copy_node.Goals as goal
use Rattle.renumbering.proofs.copy_node.Goals.{After-decode_node-read, After-move_links}

-- the node of the file, in arrays of its own
read : (c : After-decode_node-read) → NodeRead c.args.bytes.now c.args.places.from
    c.decode_node-read.new.rules c.decode_node-read.new.links c.decode_node-read.new.codes c.decode_node-read.result.start
read c =
    let e = c.decode_node-read.ensures in
    record { rule = e.rules_after; links = e.links_after; codes = e.codes_after; many = omega (arith, e.at_value.1) }

-- and moved there
module _ (c : After-move_links) where
  file_node : NodeRead c.args.bytes.now c.args.places.from
      c.decode_node-read.new.rules c.decode_node-read.new.links c.decode_node-read.new.codes c.decode_node-read.result.start
  file_node =
      let e = c.decode_node-read.ensures in
      record { rule = e.rules_after; links = e.links_after; codes = e.codes_after; many = omega (arith, e.at_value.1) }

  moved : laying.node_at (get_or c.decode_node-read.new.rules 0 0) c.move_links.new.links 0 c.decode_node-read.new.codes 0 c.decode_node-read.result.start
      ≡ shift c.args.by (node_at c.args.bytes.now c.args.places.from)
  moved = read_moved file_node c.args.by c.requires.0.few c.move_links.ensures

  still_four : length c.move_links.new.links ≡ 4
  still_four = ap length c.move_links.ensures ∙ simp length-set (four_links file_node)

  room : c.decode_node-read.result.start ≤ length c.decode_node-read.new.codes
  room = room_for_codes file_node c.requires.0.few

pub move_links-requires : goal.move_links-requires
move_links-requires c =
    let here = read (goal.at.move_links-requires c).After-decode_node-read in
    (four_links here, read_moves here c.requires.2)

pub put_node-to-requires : goal.put_node-to-requires
put_node-to-requires c =
    let here = (goal.at.put_node-to-requires c).After-move_links in (
      subst (λ (x : Node). Fits c.args.out.now c.args.places.to (encode_node x)) (sym (moved here)) c.requires.3,
      omega (arith, still_four here),
      omega (arith, room here),
      omega (arith, (file_node here).many, c.requires.0.few),
    )

pub returns : goal.returns
returns c =
    (c.decode_node-read.ensures.at_value.0, put_as (ap encode_node (moved (goal.at.returns c).After-move_links)) c.put_node-to.ensures)

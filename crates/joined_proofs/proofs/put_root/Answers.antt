-- The links and the codes are those of the new root.
use Rattle.std.proofs.Common.{arith, ◌≡◌, ◌+◌, sym, subst, ap, List, [], ◌∷◌, ℕ, length, take, replicate}
use Rattle.std.proofs.Math.ListN.{length-replicate}
use Rattle.formula.specs.Rule
use Rattle.formula.specs.Nodes.{Node}
use Rattle.proof_files.specs.ProofFile.{encode_node}
use Rattle.laying.specs.Laying.{Fits, node_at, put_as}
use Rattle.joining.specs.Joined.{joined_root}
use Rattle.joined_proofs.specs.Focusing.{focused_long, root_node}
use Rattle.joined_proofs.proofs.put_root.Goals as goal
use Rattle.joined_proofs.proofs.put_root.Goals.{After-put_focused}

-- once the codes stand
module _ (c : After-put_focused) where
  abbrev codes : List ℕ
  codes = c.put_focused.new.codes

  still_24 : length codes ≡ 24
  still_24 = focused_long c.requires.0 (replicate 24 0) c.put_focused.ensures (length-replicate {A = ℕ} 24 0)

  abbrev root : Node
  root = joined_root c.args.entry (take c.args.count c.args.members.now) c.args.nodes

  root_is : node_at Rule.AND (c.code_of.result ∷ 1 ∷ (c.args.nodes + 1) ∷ 0 ∷ []) 0 codes 0 c.args.count ≡ root
  root_is = root_node c.requires.0 (replicate 24 0) c.put_focused.ensures c.args.entry c.args.nodes c.code_of.ensures.1

pub put_node-requires : goal.put_node-requires
put_node-requires c =
    let here = (goal.at.put_node-requires c).After-put_focused in (
      subst (λ (x : Node). Fits c.args.out.now 6 (encode_node x)) (sym (root_is here)) c.requires.3,
      omega arith,
      omega (arith, still_24 here, c.requires.0.few),
      c.requires.0.few,
    )

pub returns : goal.returns
returns c =
    put_as (ap encode_node (root_is (goal.at.returns c).After-put_focused)) c.put_node.ensures

-- The two bytes in front, the fields, the codes, one run behind the other.
use native.Mathlib.Omega.{arith}
use mathlib.Core.Path.{◌≡◌, ap}
use mathlib.Core.List.{List, [], ◌∷◌, ◌++◌}
use mathlib.Core.Bool.{Bool}
use Prim.Native.Nat.{ℕ, ◌+◌}
use lib.ListN.{set}
use Rattle.bits.specs.IfSet.{if_set_lem}
use Rattle.formula.specs.Fields.{low_map_lem}
use Rattle.formula.specs.Nodes.{Node}
use Rattle.proof_files.specs.ProofFile.{encode_rule, full, encode_node}
use Rattle.laying.specs.Laying.{Put, Left, node_at, link_bytes, codes_part, full_is, all_left, less_left, last_left, head_put, put_as}
use Rattle.laying.proofs.put_node.Goals as goal
use Rattle.laying.proofs.put_node.Goals.{After-if_set}

-- once the first two bytes are stored: the fields and the codes are left
module _ (c : After-if_set) where
  abbrev this : Node
  this = node_at c.args.rule c.args.links.now c.args.v c.args.codes.now c.args.start c.args.count

  abbrev fields : List ℕ
  fields = link_bytes c.args.rule c.args.links.now c.args.v

  abbrev coded : List ℕ
  coded = codes_part c.args.codes.now c.args.start c.args.count

  abbrev Rest : List ℕ → ℕ → List ℕ → Type 0
  Rest left at now = Left (encode_node this) c.args.at c.args.out.now left at now

  abbrev bits : ℕ
  bits = c.low_map.result + c.if_set.result

  bits_are : bits ≡ low_map_lem c.args.rule + if_set_lem (full this.codes) 16
  bits_are =
      let follow = ap (λ (b : Bool). if_set_lem b 16) (full_is c.args.codes.now c.args.start c.args.count c.requires.2) in
      omega (arith, c.low_map.ensures.0, c.if_set.ensures.0, follow)

  abbrev headed : List ℕ
  headed = set (set c.args.out.now c.args.at bits) (c.args.at + 1) c.args.rule

  head-left : Rest (fields ++ coded) (c.args.at + 2) headed
  head-left =
      less_left (encode_rule (c.args.rule, full this.codes)) (fields ++ coded) (all_left (encode_node this) c.args.out.now c.args.at)
      (put_as (ap (λ (m : ℕ). m ∷ c.args.rule ∷ []) bits_are) (head_put c.args.out.now c.args.at bits c.args.rule))

  -- once the fields are
  links-left : {next : ℕ} {now : List ℕ} → Put headed (c.args.at + 2) fields next now → Rest coded next now
  links-left p = less_left fields coded head-left p

pub returns : goal.returns
returns c = let s = (goal.at.returns c).After-if_set in last_left (coded s) (links-left s c.put_links-next.ensures) c.put_codes.ensures

-- The place after the fields is the one where the definition looks for the count and the codes.
use native.Mathlib.Omega.{arith}
use mathlib.Core.Path.{refl, ap, ◌∙◌}
use Prim.Native.Nat.{◌+◌}
use lib.Seq.{sets}
use Rattle.nodes.specs.ProofDecode.{node_at, with_codes, no_codes}
use Rattle.nodes.proofs.decode_node.Goals as goal

pub returns-then-bytes-at-lt16-clause-rules_after : goal.returns-then-bytes-at-lt16-clause-rules_after
unfolding node_at
returns-then-bytes-at-lt16-clause-rules_after c = refl

pub returns-then-bytes-at-lt16-clause-codes_after : goal.returns-then-bytes-at-lt16-clause-codes_after
unfolding node_at
returns-then-bytes-at-lt16-clause-codes_after c =
    let bare = no_codes c.args.bytes.now c.args.spot.at c.if-bytes-at-lt16.true (c.args.spot.at + 2 + c.link_width.result) (omega (arith, c.link_width.ensures.0)) in
    ap (sets c.args.codes.now c.args.spot.start) bare.are

pub returns-clause-rules_after : goal.returns-clause-rules_after
unfolding node_at
returns-clause-rules_after c = refl

pub returns-clause-codes_after : goal.returns-clause-codes_after
unfolding node_at
returns-clause-codes_after c =
    let full = with_codes c.args.bytes.now c.args.spot.at c.if-bytes-at-lt16.false (c.args.spot.at + 2 + c.link_width.result) (omega (arith, c.link_width.ensures.0)) in
    c.copy_words.ensures ∙ ap (sets c.args.codes.now c.args.spot.start) full.are

-- As many nodes are read as the two bytes say.
use mathlib.Core.Path.{sym, ◌∙◌}
use Rattle.encoding.specs.Places.{word_at}
use Rattle.nodes.specs.ProofDecode.{nodes_at_length}
use Rattle.nodes.proofs.node_count.Goals as goal

pub returns : goal.returns
returns c at =
    let file = c.args.bytes.now in
    c.word_at.ensures ∙ sym (nodes_at_length file at (word_at file 4))

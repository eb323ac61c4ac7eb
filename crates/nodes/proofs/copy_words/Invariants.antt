-- After i turns the first i numbers stand in the array, one store each.
use mathlib.Core.Path.{◌≡◌}
use lib.Seq.{sets}
use Rattle.nodes.specs.ProofDecode.{words_at}
use Rattle.nodes.proofs.copy_words.Given as goal

abbrev pub invariant-loop-i : goal.invariant-loop-i
invariant-loop-i l = l.words ≡ sets l.initial.words l.start (words_at l.bytes l.at l.i)

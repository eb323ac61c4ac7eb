-- After so many turns so many nodes are laid down, and the others stand from the place reached on.
use mathlib.Core.Path.{◌≡◌}
use Rattle.encoding.specs.Places.{word_at}
use Rattle.renumbering.specs.Copying.{Copying}
use Rattle.renumbering.proofs.copy_nodes.Given as goal

abbrev pub invariant-loop : goal.invariant-loop
invariant-loop l = (l.n ≡ word_at l.bytes 4) × Copying l.bytes l.by l.to l.initial.out l.places.from l.places.to l.out l.counter

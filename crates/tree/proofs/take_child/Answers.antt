-- a child that fits is a node, so the index is good
use mathlib.Core.Path.{◌≡◌, sym, ◌∙◌}
use mathlib.Core.Bool.{true}
use Rattle.tree.specs.Owners.{unowned}
use Rattle.tree.proofs.take_child.Goals.{Else-not-child_fits}

fits : (c : Else-not-child_fits) → unowned c.args.owners.now c.args.nodes c.args.v c.args.w ≡ true
fits c = sym c.child_fits.ensures ∙ c.if-not-child_fits.false

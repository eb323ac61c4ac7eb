-- An entry with B has A too.
use mathlib.Core.Path.{sym, ◌∙◌}
use Rattle.formula.specs.FieldLaws.{map_two, map-one, map-none}
use Rattle.formula.proofs.Kind.map.Goals as goal

pub returns-then-has_b : goal.returns-then-has_b
returns-then-has_b c = sym (map_two c.args.kind (sym c.has_b.ensures ∙ c.if-has_b.true))

pub returns-then-has_a : goal.returns-then-has_a
returns-then-has_a c = sym (map-one c.args.kind (sym c.has_b.ensures ∙ c.if-has_b.false) (sym c.has_a.ensures ∙ c.if-has_a.true))

pub returns : goal.returns
returns c = sym (map-none c.args.kind (sym c.has_b.ensures ∙ c.if-has_b.false) (sym c.has_a.ensures ∙ c.if-has_a.false))

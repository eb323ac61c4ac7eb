-- a shape with its action set aside
use Rattle.formula.specs.Shape.{Shape, leaf, two, step, fix, name, Step, diamond, box}

-- the shape with no action
abbrev still_step : Step → Step
still_step (diamond n) = diamond 0
still_step (box n) = box 0

abbrev pub still : Shape → Shape
still (leaf l) = leaf l
still (two o a b) = two o a b
still (step m a) = step (still_step m) a
still (fix σ a) = fix σ a
still (name x) = name x

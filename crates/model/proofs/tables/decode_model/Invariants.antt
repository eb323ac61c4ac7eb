-- the loop walks a good file, where every step finds a state, and stores what it finds
use Rattle.model.specs.Tables.{Tabled}
use Rattle.model.proofs.tables.decode_model.Given as goal

abbrev pub invariant-loop-i : goal.invariant-loop-i
invariant-loop-i l = Tabled l.bytes l.i l.at l.masks l.marks

-- the bit in one mark more is that of one successor more
use Rattle.model.specs.Rows.{RowMore}
use Rattle.model.specs.Decoding.{successors_at}
use Rattle.model.proofs.tables.put_marks.Given as goal

abbrev pub invariant-loop-successor : goal.invariant-loop-successor
invariant-loop-successor l = RowMore l.action l.initial.marks (successors_at l.bytes l.list l.successor-index) l.marks

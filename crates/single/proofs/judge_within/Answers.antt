-- there is room for as many nodes as the columns are for
use Rattle.formula.specs.NodeColumns.{room}
use Rattle.single.proofs.judge_within.Goals as goal

pub judge_in-requires : goal.judge_in-requires
judge_in-requires g c =
    let r = c.requires.room in
    (c.requires.readable, rw (r.2, r.3, r.4) (room g.row.NODES r.0 r.1))

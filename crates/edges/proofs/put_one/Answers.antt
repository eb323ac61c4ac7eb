-- the bit is put, or lies past the last state
use Rattle.edges.specs.Added.{put_at}
use Rattle.edges.proofs.put_one.Goals as goal

pub returns-then-column-n : goal.returns-then-column-n
returns-then-column-n c =
    let pre = c.requires in
    put_at _ pre.0 pre.1 pre.2 c.if-column-n.true

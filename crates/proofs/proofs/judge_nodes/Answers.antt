-- The walk's outcome decides, and after it whether bytes follow.
use mathlib.Core.Path.{sym, ap, ◌∙◌}
use Rattle.encoding.specs.File.{ending}
use Rattle.encoding.specs.Outcome.{verdict_of}
use Rattle.encoding.specs.Walk.{bytes_follow}
use Rattle.proof_files.specs.ReadProof.{early}
use Rattle.proofs.proofs.judge_nodes.Goals as goal

pub returns-then-end-bytes : goal.returns-then-end-bytes
returns-then-end-bytes c =
    let (x, f) = c.in_ok-end.ensures in
    rw c.at.ensures (ap verdict_of (sym (ap (ending early) f.found ∙ bytes_follow early c.args.bytes.now x _ c.if-end-bytes.true)))

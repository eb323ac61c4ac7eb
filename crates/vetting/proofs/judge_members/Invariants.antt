-- The members before i rise, and the rest is walked over from here.
use lib.ListN.{take, drop}
use Rattle.formula.specs.Members.{is_formula}
use Rattle.proof_files.specs.ProofParts.{kind_table}
use Rattle.vetting.specs.WalkLaws.{RisingLeft}
use Rattle.vetting.proofs.judge_members.Given as goal

abbrev pub invariant-loop-i : goal.invariant-loop-i
invariant-loop-i l =
    RisingLeft (is_formula (kind_table l.kinds l.count)) 14 (take l.listed (drop l.start l.members)) l.at l.i l.floor

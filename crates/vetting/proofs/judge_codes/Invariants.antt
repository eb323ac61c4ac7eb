-- The codes before i rise, and the rest is walked over from here.
use lib.ListN.{take, drop}
use Rattle.proof_files.specs.ReadProof.{is_code_lem}
use Rattle.proof_files.specs.ProofParts.{kind_table}
use Rattle.vetting.specs.WalkLaws.{RisingLeft}
use Rattle.vetting.proofs.judge_codes.Given as goal

abbrev pub invariant-loop-i : goal.invariant-loop-i
invariant-loop-i l =
    RisingLeft (is_code_lem (kind_table l.kinds l.entries)) 34 (take l.count (drop l.start l.codes)) l.at l.i l.least

-- After some turns the numbers from the next on are left.
use Rattle.std.proofs.Common.{drop}
use Rattle.encoding.specs.Encode.{encode_two, encode_all}
use Rattle.laying.specs.Laying.{Left}
use Rattle.laying.proofs.put_numbers.Given as goal

abbrev pub invariant-loop-number : goal.invariant-loop-number
invariant-loop-number l =
    Left (encode_all encode_two l.number-items) l.from l.initial.out (encode_all encode_two (drop l.number-index l.number-items)) l.at l.out

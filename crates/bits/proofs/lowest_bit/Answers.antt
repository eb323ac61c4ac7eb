use Rattle.std.proofs.Common.{◌<◌, ◌^◌, rules}
use Rattle.bits.specs.LowestBit.{lowest_bit_lem}
use Rattle.bits.proofs.lowest_bit.Goals as goal

pub returns : goal.returns
returns c = let b : c.args.word < 2 ^ 64 = search rules in lowest_bit_lem c.args.word c.requires b

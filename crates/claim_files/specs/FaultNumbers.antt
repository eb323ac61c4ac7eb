-- the number that each fault of a claim's bytes has
use Rattle.std.specs.Prelude.{ℕ}
use Rattle.claim_files.specs.declared.ClaimFault.{ClaimFault}
use Rattle.claim_files.specs.declared.ClaimFault.TheVariants.{Opening, Length, Count, Kind, Member, Goals}

abbrev pub number_of : ClaimFault → ℕ
number_of Opening = 10
number_of Length = 11
number_of Count = 12
number_of Kind = 13
number_of Member = 14
number_of Goals = 72

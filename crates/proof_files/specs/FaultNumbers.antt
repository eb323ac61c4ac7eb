-- the number that each fault of a proof's bytes has
use Rattle.std.specs.Prelude.{ℕ}
use Rattle.proof_files.specs.declared.ProofFault.{ProofFault}
use Rattle.proof_files.specs.declared.ProofFault.TheVariants.{Opening, Length, Count, Rule, Code}

abbrev pub number_of : ProofFault → ℕ
number_of Opening = 30
number_of Length = 31
number_of Count = 32
number_of Rule = 33
number_of Code = 34

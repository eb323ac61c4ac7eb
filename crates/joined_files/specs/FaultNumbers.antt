-- the number that each fault of two inputs that do not join has
use Rattle.std.specs.Prelude.{ℕ}
use Rattle.joined_files.specs.declared.JoinFault.{JoinFault}
use Rattle.joined_files.specs.declared.JoinFault.TheVariants.{Unfit, Nodes}

abbrev pub number_of : JoinFault → ℕ
number_of Unfit = 73
number_of Nodes = 74

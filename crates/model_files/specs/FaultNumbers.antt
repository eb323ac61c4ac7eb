-- the number that each fault of a model's bytes has
use Rattle.std.specs.Prelude.{ℕ}
use Rattle.model_files.specs.declared.ModelFault.{ModelFault}
use Rattle.model_files.specs.declared.ModelFault.TheVariants.{Opening, Length, Count, Map, Successor}

abbrev pub number_of : ModelFault → ℕ
number_of Opening = 60
number_of Length = 61
number_of Count = 62
number_of Map = 63
number_of Successor = 64

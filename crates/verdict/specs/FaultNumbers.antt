-- the number that each fault of a lent slice has
use Rattle.std.specs.Prelude.{ℕ}
use Rattle.verdict.specs.declared.SliceFault.{SliceFault}
use Rattle.verdict.specs.declared.SliceFault.TheVariants.{Short, Output}

abbrev pub number_of : SliceFault → ℕ
number_of Short = 1
number_of Output = 70

-- the number that each fault of a call in a state has
use Rattle.std.specs.Prelude.{ℕ}
use Rattle.permit.specs.declared.GateFault.{GateFault}
use Rattle.permit.specs.declared.GateFault.TheVariants.{Closed, Holding, NoPermit, NotClosed}

abbrev pub number_of : GateFault → ℕ
number_of Closed = 50
number_of Holding = 51
number_of NoPermit = 52
number_of NotClosed = 53

-- The number with which the program ends.
use Rattle.std.specs.Prelude.{ℕ}
use Rattle.command_model.specs.declared.status.Status.{Status}
use Rattle.command_model.specs.declared.status.Status.TheVariants.{Ok, Refused, Usage, BadProgram, BadScript, ShelfFault, InputFault, SinkFault, NoMemory, BudgetSpent}

-- the statuses are numbered in their order, from 0
abbrev pub number_of : Status → ℕ
number_of Ok = 0
number_of Refused = 1
number_of Usage = 2
number_of BadProgram = 3
number_of BadScript = 4
number_of ShelfFault = 5
number_of InputFault = 6
number_of SinkFault = 7
number_of NoMemory = 8
number_of BudgetSpent = 9

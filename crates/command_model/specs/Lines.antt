-- The line of words that mean no command, and the statuses of the faults of a replay.
use Rattle.std.specs.Prelude.{ℕ, List, codes}
use Rattle.replay_model.specs.declared.replay_fault.ReplayFault.{ReplayFault}
use Rattle.replay_model.specs.declared.replay_fault.ReplayFault.TheVariants as fault
use Rattle.command_model.specs.declared.status.Status.{Status}
use Rattle.command_model.specs.declared.status.Status.TheVariants as status

abbrev pub usage_line : List ℕ
usage_line = codes "usage: map replay P S | fill P S\n"

abbrev pub fault_status : ReplayFault → Status
fault_status (fault.Program f) = status.BadProgram
fault_status (fault.Load f) = status.BadProgram
fault_status (fault.Script f) = status.BadScript
fault_status (fault.Refused number refusal) = status.Refused
fault_status fault.NoMemory = status.NoMemory

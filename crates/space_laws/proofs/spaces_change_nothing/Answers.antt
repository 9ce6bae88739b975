use Rattle.space_laws.proofs.Places.{spaces_change_no_program, spaces_change_no_goal}
use Rattle.space_laws.proofs.spaces_change_nothing.Goals as goal

pub returns-clause-programs : goal.returns-clause-programs
returns-clause-programs c = spaces_change_no_program

pub returns-clause-goals : goal.returns-clause-goals
returns-clause-goals c = spaces_change_no_goal

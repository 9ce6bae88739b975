use Rattle.space_laws.proofs.Programs.{programs_are_the_same as whole_programs, goals_are_the_same}
use Rattle.space_laws.proofs.programs_are_the_same.Goals as goal

pub returns-clause-programs : goal.returns-clause-programs
returns-clause-programs c = whole_programs

pub returns-clause-goals : goal.returns-clause-goals
returns-clause-goals c = goals_are_the_same

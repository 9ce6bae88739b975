use Rattle.script_space_laws.proofs.Scripts.{steps_are_the_same, scripts_are_the_same as whole_scripts, lines_are_the_same}
use Rattle.script_space_laws.proofs.scripts_are_the_same.Goals as goal

pub returns-clause-steps : goal.returns-clause-steps
returns-clause-steps c = steps_are_the_same

pub returns-clause-scripts : goal.returns-clause-scripts
returns-clause-scripts c = whole_scripts

pub returns-clause-lines : goal.returns-clause-lines
returns-clause-lines c = lines_are_the_same

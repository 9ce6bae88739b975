use Rattle.script_space_laws.proofs.Scripts.{spaces_change_no_script as scripts, spaces_change_no_line as lines}
use Rattle.script_space_laws.proofs.spaces_change_no_script.Goals as goal

pub returns-clause-scripts : goal.returns-clause-scripts
returns-clause-scripts c = scripts

pub returns-clause-lines : goal.returns-clause-lines
returns-clause-lines c = lines

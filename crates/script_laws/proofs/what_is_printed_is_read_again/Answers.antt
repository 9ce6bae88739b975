use Rattle.script_laws.proofs.Scripts.{steps_are_read_again, scripts_are_read_again}
use Rattle.script_laws.proofs.what_is_printed_is_read_again.Goals as goal

pub returns-clause-steps : goal.returns-clause-steps
returns-clause-steps c = steps_are_read_again

pub returns-clause-scripts : goal.returns-clause-scripts
returns-clause-scripts c = scripts_are_read_again

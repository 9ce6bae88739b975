use Rattle.command_laws.proofs.Plans.{ok, refused, bad_program_is_bad, bad_script_is_bad, awaited}
use Rattle.command_laws.proofs.scripts_on_programs_have_causes.Goals as goal

pub returns-clause-ok : goal.returns-clause-ok
returns-clause-ok c = ok

pub returns-clause-refused : goal.returns-clause-refused
returns-clause-refused c = refused

pub returns-clause-bad_program : goal.returns-clause-bad_program
returns-clause-bad_program c = bad_program_is_bad

pub returns-clause-bad_script : goal.returns-clause-bad_script
returns-clause-bad_script c = bad_script_is_bad

pub returns-clause-order : goal.returns-clause-order
returns-clause-order c = awaited

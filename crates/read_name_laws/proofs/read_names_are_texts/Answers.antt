use Rattle.read_name_laws.proofs.Programs.{programs, over}
use Rattle.read_name_laws.proofs.Scripts.{scripts}
use Rattle.read_name_laws.proofs.read_names_are_texts.Goals as goal

pub returns-clause-programs : goal.returns-clause-programs
returns-clause-programs c = programs

pub returns-clause-scripts : goal.returns-clause-scripts
returns-clause-scripts c = scripts

pub returns-clause-over : goal.returns-clause-over
returns-clause-over c = over

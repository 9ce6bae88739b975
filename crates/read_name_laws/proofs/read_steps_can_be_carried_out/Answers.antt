use Rattle.read_name_laws.proofs.Steps.{parts, steps_formed, steps_over}
use Rattle.read_name_laws.proofs.read_steps_can_be_carried_out.Goals as goal

pub returns-clause-parts : goal.returns-clause-parts
returns-clause-parts c = parts

pub returns-clause-formed : goal.returns-clause-formed
returns-clause-formed c = steps_formed

pub returns-clause-over : goal.returns-clause-over
returns-clause-over c = steps_over

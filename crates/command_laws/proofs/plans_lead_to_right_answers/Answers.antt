use Rattle.command_laws.proofs.Rightly.{right}
use Rattle.command_laws.proofs.Plans.{plans_say}
use Rattle.command_laws.proofs.plans_lead_to_right_answers.Goals as goal

pub returns-clause-right : goal.returns-clause-right
returns-clause-right c = right

pub returns-clause-said : goal.returns-clause-said
returns-clause-said c = plans_say

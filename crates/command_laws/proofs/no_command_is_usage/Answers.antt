use Rattle.command_laws.proofs.Plans.{no_command, usage}
use Rattle.command_laws.proofs.no_command_is_usage.Goals as goal

pub returns-clause-usage : goal.returns-clause-usage
returns-clause-usage c = no_command

pub returns-clause-alone : goal.returns-clause-alone
returns-clause-alone c = usage

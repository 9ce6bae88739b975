use Rattle.script_laws.proofs.ReadSteps.{row_is, step_is, script_is}
use Rattle.script_laws.proofs.what_is_read_is_in_range.Goals as goal

pub returns-clause-row : goal.returns-clause-row
returns-clause-row c = row_is

pub returns-clause-step : goal.returns-clause-step
returns-clause-step c = step_is

pub returns-clause-script : goal.returns-clause-script
returns-clause-script c = script_is

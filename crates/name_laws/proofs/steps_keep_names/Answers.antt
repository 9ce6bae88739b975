use Rattle.name_laws.proofs.States.{start_keeps_names, step_keeps_names, run_keeps_names}
use Rattle.name_laws.proofs.steps_keep_names.Goals as goal

pub returns-clause-start : goal.returns-clause-start
returns-clause-start c = start_keeps_names

pub returns-clause-step : goal.returns-clause-step
returns-clause-step c = step_keeps_names

pub returns-clause-script : goal.returns-clause-script
returns-clause-script c = run_keeps_names

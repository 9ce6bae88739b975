use Rattle.fill_laws.proofs.Filled.{filled_step, filled_run, filled_script}
use Rattle.fill_laws.proofs.filled_steps_run_to_the_same.Goals as goal

pub returns-clause-step : goal.returns-clause-step
returns-clause-step c = filled_step

pub returns-clause-run : goal.returns-clause-run
returns-clause-run c = filled_run

pub returns-clause-script : goal.returns-clause-script
returns-clause-script c = filled_script

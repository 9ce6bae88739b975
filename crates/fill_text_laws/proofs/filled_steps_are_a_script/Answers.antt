use Rattle.fill_text_laws.proofs.Histories.{step_in_range, run_in_range, step_keeps_script, run_keeps_script}
use Rattle.fill_text_laws.proofs.filled_steps_are_a_script.Goals as goal

pub returns-clause-step : goal.returns-clause-step
returns-clause-step c = step_in_range

pub returns-clause-run : goal.returns-clause-run
returns-clause-run c = run_in_range

pub returns-clause-step_script : goal.returns-clause-step_script
returns-clause-step_script c = step_keeps_script

pub returns-clause-run_script : goal.returns-clause-run_script
returns-clause-run_script c = run_keeps_script

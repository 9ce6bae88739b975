use Rattle.fill_text_laws.proofs.Histories.{step_printable, run_printable}
use Rattle.fill_text_laws.proofs.filled_steps_are_printable.Goals as goal

pub returns-clause-step : goal.returns-clause-step
returns-clause-step c = step_printable

pub returns-clause-run : goal.returns-clause-run
returns-clause-run c = run_printable

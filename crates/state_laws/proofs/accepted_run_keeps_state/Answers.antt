use Rattle.state_laws.proofs.Running.{run_keeps_state, run_keeps_base}
use Rattle.state_laws.proofs.Loaded.{loaded_run_is_kept}
use Rattle.state_laws.proofs.accepted_run_keeps_state.Goals as goal

pub returns-clause-state : goal.returns-clause-state
returns-clause-state c = run_keeps_state

pub returns-clause-base : goal.returns-clause-base
returns-clause-base c = run_keeps_base

pub returns-clause-loaded : goal.returns-clause-loaded
returns-clause-loaded c = loaded_run_is_kept

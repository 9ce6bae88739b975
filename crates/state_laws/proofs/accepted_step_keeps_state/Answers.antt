use Rattle.state_laws.proofs.Running.{step_keeps_state, step_keeps_base}
use Rattle.state_laws.proofs.accepted_step_keeps_state.Goals as goal

pub returns-clause-state : goal.returns-clause-state
returns-clause-state c = step_keeps_state

pub returns-clause-base : goal.returns-clause-base
returns-clause-base c = step_keeps_base

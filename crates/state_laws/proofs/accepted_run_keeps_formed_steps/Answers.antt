use Rattle.state_laws.proofs.Formed.{run_keeps_formed}
use Rattle.state_laws.proofs.accepted_run_keeps_formed_steps.Goals as goal

pub returns : goal.returns
returns c = run_keeps_formed

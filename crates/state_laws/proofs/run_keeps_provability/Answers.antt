use Rattle.state_laws.proofs.Starting.{run_keeps}
use Rattle.state_laws.proofs.run_keeps_provability.Goals as goal

pub returns : goal.returns
returns c = run_keeps

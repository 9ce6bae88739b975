use Rattle.limit_laws.proofs.Limits.{step_keeps_limits}
use Rattle.limit_laws.proofs.laws.accepted_steps_keep_limits.Goals as goal

pub returns : goal.returns
returns c = step_keeps_limits

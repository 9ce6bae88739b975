use Rattle.limit_laws.proofs.Limits.{run_keeps_limits}
use Rattle.limit_laws.proofs.laws.accepted_runs_keep_limits.Goals as goal

pub returns : goal.returns
returns c = run_keeps_limits

use Rattle.limit_laws.proofs.Limits.{start_within}
use Rattle.limit_laws.proofs.laws.start_is_within_limits.Goals as goal

pub returns : goal.returns
returns c = start_within

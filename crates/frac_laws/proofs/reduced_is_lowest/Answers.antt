use Rattle.frac_laws.proofs.Reducing.{lowest}
use Rattle.frac_laws.proofs.reduced_is_lowest.Goals as goal

pub returns : goal.returns
returns c = lowest

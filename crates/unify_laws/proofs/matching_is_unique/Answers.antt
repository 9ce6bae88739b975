use Rattle.unify_laws.proofs.Matchings.{one_matching}
use Rattle.unify_laws.proofs.matching_is_unique.Goals as goal

pub returns : goal.returns
returns c = one_matching

use Rattle.unify_laws.proofs.Matchings.{none_matched}
use Rattle.unify_laws.proofs.none_exactly_without_matching.Goals as goal

pub returns : goal.returns
returns c = none_matched

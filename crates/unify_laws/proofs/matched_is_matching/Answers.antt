use Rattle.unify_laws.proofs.Matchings.{matched_is}
use Rattle.unify_laws.proofs.matched_is_matching.Goals as goal

pub returns : goal.returns
returns c = matched_is

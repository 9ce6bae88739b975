use Rattle.clp_rationals.proofs.Lowest.{lowest_over}
use Rattle.clp_rationals.proofs.each_rational_has_lowest_terms.Goals as goal

pub returns : goal.returns
returns c = lowest_over

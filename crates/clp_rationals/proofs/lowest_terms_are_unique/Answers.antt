use Rattle.clp_rationals.proofs.Lowest.{only_one}
use Rattle.clp_rationals.proofs.lowest_terms_are_unique.Goals as goal

pub returns : goal.returns
returns c = only_one

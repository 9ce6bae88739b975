use Rattle.frac_laws.proofs.Inverses.{sum_commutes}
use Rattle.frac_laws.proofs.sum_commutes.Goals as goal

pub returns : goal.returns
returns c = sum_commutes

use Rattle.frac_laws.proofs.Inverses.{sum_associates}
use Rattle.frac_laws.proofs.sum_associates.Goals as goal

pub returns : goal.returns
returns c = sum_associates

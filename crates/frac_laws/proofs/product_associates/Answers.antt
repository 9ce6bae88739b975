use Rattle.frac_laws.proofs.Inverses.{product_associates}
use Rattle.frac_laws.proofs.product_associates.Goals as goal

pub returns : goal.returns
returns c = product_associates

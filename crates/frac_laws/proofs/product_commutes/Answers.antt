use Rattle.frac_laws.proofs.Inverses.{product_commutes}
use Rattle.frac_laws.proofs.product_commutes.Goals as goal

pub returns : goal.returns
returns c = product_commutes

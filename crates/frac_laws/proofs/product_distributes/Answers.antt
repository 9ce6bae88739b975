use Rattle.frac_laws.proofs.Inverses.{product_distributes}
use Rattle.frac_laws.proofs.product_distributes.Goals as goal

pub returns : goal.returns
returns c = product_distributes

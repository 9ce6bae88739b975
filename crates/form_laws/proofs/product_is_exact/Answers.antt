use Rattle.form_laws.proofs.Sums.{product_is_exact}
use Rattle.form_laws.proofs.product_is_exact.Goals as goal

pub returns : goal.returns
returns c = product_is_exact

use Rattle.frac_laws.proofs.Exact.{product_over}
use Rattle.frac_laws.proofs.product_is_exact.Goals as goal

pub returns : goal.returns
returns c = λ f g p r q s h. product_over f g p r q s h.0 h.1 h.2 h.3

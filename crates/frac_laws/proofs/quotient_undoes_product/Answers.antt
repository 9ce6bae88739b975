use Rattle.frac_laws.proofs.Inverses.{product_undoes_quotient, quotient_undoes_product}
use Rattle.frac_laws.proofs.quotient_undoes_product.Goals as goal

pub returns : goal.returns
returns c = λ f g lf lg h. (quotient_undoes_product f g lf lg h, product_undoes_quotient f g lf lg h)

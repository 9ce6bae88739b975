use Rattle.form_laws.proofs.Sums.{quotient_is_exact}
use Rattle.form_laws.proofs.quotient_is_exact.Goals as goal

pub returns : goal.returns
returns c = quotient_is_exact

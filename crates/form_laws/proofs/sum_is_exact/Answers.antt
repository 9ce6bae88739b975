use Rattle.form_laws.proofs.Sums.{sum_is_exact}
use Rattle.form_laws.proofs.sum_is_exact.Goals as goal

pub returns : goal.returns
returns c = sum_is_exact

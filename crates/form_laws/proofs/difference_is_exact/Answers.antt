use Rattle.form_laws.proofs.Sums.{difference_is_exact}
use Rattle.form_laws.proofs.difference_is_exact.Goals as goal

pub returns : goal.returns
returns c = difference_is_exact

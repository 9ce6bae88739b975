use Rattle.form_laws.proofs.Sums.{variable_is_exact}
use Rattle.form_laws.proofs.variable_is_exact.Goals as goal

pub returns : goal.returns
returns c = variable_is_exact

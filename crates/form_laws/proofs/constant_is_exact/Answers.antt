use Rattle.form_laws.proofs.Sums.{constant_is_exact}
use Rattle.form_laws.proofs.constant_is_exact.Goals as goal

pub returns : goal.returns
returns c = constant_is_exact

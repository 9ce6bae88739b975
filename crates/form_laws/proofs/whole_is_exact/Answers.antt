use Rattle.form_laws.proofs.Sums.{whole_is_exact}
use Rattle.form_laws.proofs.whole_is_exact.Goals as goal

pub returns : goal.returns
returns c = whole_is_exact

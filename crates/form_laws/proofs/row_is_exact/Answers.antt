use Rattle.form_laws.proofs.Rows.{row_is_exact}
use Rattle.form_laws.proofs.row_is_exact.Goals as goal

pub returns : goal.returns
returns c = row_is_exact

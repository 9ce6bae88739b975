use Rattle.evaluation_laws.proofs.Rows.{standing_rows, renumbered_rows}
use Rattle.evaluation_laws.proofs.standing_rows_have_their_value.Goals as goal

pub returns-clause-same : goal.returns-clause-same
returns-clause-same c = standing_rows

pub returns-clause-renumbered : goal.returns-clause-renumbered
returns-clause-renumbered c = renumbered_rows

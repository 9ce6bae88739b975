use Rattle.row_showing.proofs.Finding.{found_unsatisfiable}
use Rattle.row_showing.proofs.showing.found_false.Goals as goal

pub returns-in-Ok-Shown-clause-unsatisfiable : goal.returns-in-Ok-Shown-clause-unsatisfiable
returns-in-Ok-Shown-clause-unsatisfiable c = found_unsatisfiable c.args.rows.now c.in-Ok-Shown.field-0 _ c.in-Ok-Shown.field-0-is c.in-Ok-Shown.ensures.right

use Rattle.row_showing.proofs.Finding.{found_entails}
use Rattle.row_showing.proofs.showing.found.Goals as goal

pub returns-in-Ok-Shown-clause-entailed : goal.returns-in-Ok-Shown-clause-entailed
returns-in-Ok-Shown-clause-entailed c = found_entails c.args.rows.now c.args.target.now c.in-Ok-Shown.field-0 _ c.in-Ok-Shown.field-0-is c.in-Ok-Shown.ensures.right

use Rattle.std.proofs.Common.{ap}
use Rattle.farkas_check.specs.Walk.{next_variable, least_in_rows}
use Rattle.farkas_check.proofs.walk.next_variable.Goals as goal

pub loop-row-init : goal.loop-row-init
unfolding next_variable
loop-row-init c = ap (least_in_rows c.args.from c.args.rows.now) c.least_from-least.ensures

use Rattle.std.proofs.Common.{◌≡◌, take, drop}
use Rattle.linear_model.specs.Elimination.{first_equation}
use Rattle.linear_model.specs.Items.{item_row}
use Rattle.entail_find.proofs.Finding.{found_after}
use Rattle.entail_find.proofs.turn.equation_place.Given as goal

abbrev pub invariant-loop-place : goal.invariant-loop-place
invariant-loop-place l = first_equation item_row l.variable l.items ≡ found_after (take l.place l.items) (first_equation item_row l.variable (drop l.place l.items))

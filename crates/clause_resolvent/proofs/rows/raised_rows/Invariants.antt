use Rattle.std.proofs.Common.{◌≡◌, map, take}
use Rattle.linear_model.specs.Changes.{renamed}
use Rattle.unfold_model.specs.Resolvent.{past}
use Rattle.clause_resolvent.proofs.rows.raised_rows.Given as goal

abbrev pub invariant-loop-row : goal.invariant-loop-row
invariant-loop-row l = l.all ≡ map (renamed (past l.by)) (take l.row-index l.rows)

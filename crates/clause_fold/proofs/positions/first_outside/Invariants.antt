use Rattle.std.proofs.Common.{◌≡◌, drop}
use Rattle.fold_model.specs.Positions as spec
use Rattle.clause_fold.proofs.positions.first_outside.Given as goal

abbrev pub invariant-loop-position : goal.invariant-loop-position
invariant-loop-position l = spec.first_outside l.count (drop l.position-index l.positions) ≡ spec.first_outside l.count l.positions

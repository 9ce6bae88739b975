use Rattle.std.proofs.Common.{◌≡◌, drop, take}
use Rattle.fold_model.specs.Positions as spec
use Rattle.clause_fold.proofs.positions.first_repeated.Given as goal

abbrev pub invariant-loop-i : goal.invariant-loop-i
invariant-loop-i l = spec.first_again (take l.i l.positions) (drop l.i l.positions) ≡ spec.first_repeated l.positions

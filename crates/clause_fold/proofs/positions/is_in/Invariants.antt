use Rattle.std.proofs.Common.{◌≡◌, drop}
use Rattle.fold_model.specs.Positions as spec
use Rattle.clause_fold.proofs.positions.is_in.Given as goal

abbrev pub invariant-loop-other : goal.invariant-loop-other
invariant-loop-other l = spec.is_in (drop l.other-index l.numbers) l.number ≡ spec.is_in l.numbers l.number

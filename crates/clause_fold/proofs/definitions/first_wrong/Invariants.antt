use Rattle.std.proofs.Common.{◌≡◌, [], suc, drop, take, map}
use Rattle.clause_store.specs.Stored.{atoms_at}
use Rattle.fold_model.specs.Internal.{number_in}
use Rattle.fold_model.specs.Definitions as spec
use Rattle.clause_fold.proofs.definitions.first_wrong.Given as goal

abbrev pub invariant-loop-i : goal.invariant-loop-i
invariant-loop-i l = spec.first_wrong (map number_in (atoms_at l.store (take l.i l.args))) (suc l.i) (atoms_at l.store (drop l.i l.args)) ≡ spec.first_wrong [] 1 (atoms_at l.store l.args)

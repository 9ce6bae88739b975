use Rattle.std.proofs.Common.{◌≡◌, suc, drop}
use Rattle.clause_store.specs.Stored.{clause_in}
use Rattle.fold_model.specs.Images.{numbers_from}
use Rattle.fold_model.specs.Definitions as spec
use Rattle.clause_fold.proofs.definitions.first_loose.Given as goal

abbrev pub invariant-loop-i : goal.invariant-loop-i
invariant-loop-i l = spec.first_loose (clause_in l._store l.n) (numbers_from (suc l.i) (drop l.i l.n.sorts)) ≡ spec.loose_variable (clause_in l._store l.n)

use Rattle.std.proofs.Common.{◌≡◌, suc, drop}
use Rattle.clause_store.specs.Stored.{clause_in}
use Rattle.fold_model.specs.Images as spec
use Rattle.clause_fold.proofs.naming.first_no_number.Given as goal

abbrev pub invariant-loop-i : goal.invariant-loop-i
invariant-loop-i l = spec.first_no_number (clause_in l.store l.c) (suc l.i) (drop l.i l.with) ≡ spec.first_no_number (clause_in l.store l.c) 1 l.with

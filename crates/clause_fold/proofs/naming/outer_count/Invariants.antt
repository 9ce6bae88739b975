use Rattle.std.proofs.Common.{◌≡◌, ◌+◌, suc, drop, length}
use Rattle.std.specs.List.{filter}
use Rattle.clause_store.specs.Stored.{clause_in}
use Rattle.fold_model.specs.Images.{numbers_from, outer_variables}
use Rattle.clause_fold.proofs.Named.{is_outer}
use Rattle.clause_fold.proofs.naming.outer_count.Given as goal

abbrev pub invariant-loop-i : goal.invariant-loop-i
invariant-loop-i l = l.count + length (filter (is_outer (clause_in l._store l.n)) (numbers_from (suc l.i) (drop l.i l.n.sorts))) ≡ length (outer_variables (clause_in l._store l.n))

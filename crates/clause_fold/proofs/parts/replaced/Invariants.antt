use Rattle.std.proofs.Common.{◌≡◌, suc, ◌++◌, drop, if◌then◌else◌}
use Rattle.fold_model.specs.Positions as spec
use Rattle.clause_fold.proofs.parts.replaced.Given as goal

abbrev pub invariant-loop-i : goal.invariant-loop-i
invariant-loop-i l = l.made ++ (if l.is_put then spec.others_from (suc l.i) l.positions (drop l.i l.terms) else spec.replaced_from l.term (suc l.i) l.positions (drop l.i l.terms)) ≡ spec.replaced l.term l.positions l.terms

use Rattle.std.proofs.Common.{◌≡◌, ◌++◌, drop}
use Rattle.unify_closure.specs.Sorting.{entering}
use Rattle.unify_closure.proofs.sorting.enter_all.Given as goal

abbrev pub invariant-loop-arg : goal.invariant-loop-arg
invariant-loop-arg l = l.stack.items ++ entering (drop l.arg-index l.args) ≡ l.fn.stack.items ++ entering l.args

use Rattle.std.proofs.Common.{◌≡◌, ◌++◌, drop}
use Rattle.std.specs.List.{zip}
use Rattle.unify_closure.proofs.choice.push_pairs.Given as goal

abbrev pub invariant-loop-i : goal.invariant-loop-i
invariant-loop-i l = l.work.items ++ zip (drop l.i l.xs) (drop l.i l.ys) ≡ l.fn.work.items ++ zip l.xs l.ys

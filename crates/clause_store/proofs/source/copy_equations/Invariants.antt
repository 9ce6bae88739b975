use Rattle.std.proofs.Common.{◌≡◌, take}
use Rattle.clause_store.proofs.source.copy_equations.Given as goal

abbrev pub invariant-loop-equation : goal.invariant-loop-equation
invariant-loop-equation l = l.copies ≡ take l.equation-index l.equations

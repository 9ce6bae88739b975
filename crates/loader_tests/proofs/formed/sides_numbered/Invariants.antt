use Rattle.std.proofs.Common.{take, All}
use Rattle.clause_loader.specs.WellFormed.{IsNumber, side_variables}
use Rattle.loader_tests.proofs.formed.sides_numbered.Given as goal

abbrev pub invariant-loop-equation : goal.invariant-loop-equation
invariant-loop-equation l = All (IsNumber l.count) (side_variables (take l.equation-index l.equations))

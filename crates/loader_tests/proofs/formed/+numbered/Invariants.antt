use Rattle.std.proofs.Common.{take, All}
use Rattle.clp_model.specs.Trees.{variables_in}
use Rattle.clause_loader.specs.WellFormed.{IsNumber}
use Rattle.loader_tests.proofs.formed.+numbered.Given as goal

abbrev pub invariant-loop-arg : goal.invariant-loop-arg
invariant-loop-arg l = All (IsNumber l.count) (variables_in (take l.arg-index l.arg-items))

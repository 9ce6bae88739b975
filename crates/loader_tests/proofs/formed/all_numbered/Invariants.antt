use Rattle.std.proofs.Common.{take, All}
use Rattle.clp_model.specs.Trees.{variables_in}
use Rattle.clause_loader.specs.WellFormed.{IsNumber}
use Rattle.loader_tests.proofs.formed.all_numbered.Given as goal

abbrev pub invariant-loop-tree : goal.invariant-loop-tree
invariant-loop-tree l = All (IsNumber l.count) (variables_in (take l.tree-index l.trees))

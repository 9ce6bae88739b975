use Rattle.std.proofs.Common.{take, All}
use Rattle.clause_loader.specs.WellFormed.{IsNarrowAtom}
use Rattle.loader_tests.proofs.formed.are_atoms.Given as goal

abbrev pub invariant-loop-tree : goal.invariant-loop-tree
invariant-loop-tree l = All IsNarrowAtom (take l.tree-index l.trees)

use Rattle.std.proofs.Common.{refl, arith}
use Rattle.clause_loader.specs.WellFormed.{IsNarrowAtom}
use Rattle.clause_loader.proofs.Items.{all_more, all_taken}
use Rattle.loader_tests.proofs.formed.are_atoms.Goals as goal

pub loop-tree-preserved : goal.loop-tree-preserved
loop-tree-preserved c = all_more IsNarrowAtom c.args.trees.now c.loop-tree.tree-index c.tree-item.result (omega arith) c.tree-item.is c.loop-tree.invariant (c.if-not-is_atom.ensures refl)

pub returns : goal.returns
returns c = λ t. all_taken IsNarrowAtom c.args.trees.now c.loop-tree.tree-index (omega arith) c.loop-tree.invariant

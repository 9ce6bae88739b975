use Rattle.std.proofs.Common.{refl, arith}
use Rattle.clp_model.specs.Trees.{variables_in}
use Rattle.clause_loader.specs.WellFormed.{IsNumber}
use Rattle.loader_tests.proofs.Items.{variables_more, taken}
use Rattle.loader_tests.proofs.formed.all_numbered.Goals as goal

pub loop-tree-preserved : goal.loop-tree-preserved
loop-tree-preserved c = variables_more (IsNumber c.args.count) c.args.trees.now c.loop-tree.tree-index c.tree-item.result (omega arith) c.tree-item.is c.loop-tree.invariant (c.if-not-numbered.ensures refl)

pub returns : goal.returns
returns c = λ t. taken variables_in (IsNumber c.args.count) c.args.trees.now c.loop-tree.tree-index (omega arith) c.loop-tree.invariant

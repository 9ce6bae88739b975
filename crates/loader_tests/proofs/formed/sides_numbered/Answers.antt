use Rattle.std.proofs.Common.{refl, arith}
use Rattle.clause_loader.specs.WellFormed.{IsNumber, side_variables}
use Rattle.loader_tests.proofs.Items.{sides_more, taken}
use Rattle.loader_tests.proofs.formed.sides_numbered.Goals as goal

pub loop-equation-preserved : goal.loop-equation-preserved
loop-equation-preserved c = sides_more (IsNumber c.args.count) c.args.equations.now c.loop-equation.equation-index c.equation-item.result (omega arith) c.equation-item.is c.loop-equation.invariant (c.if-not-numbered.ensures refl) (c.if-not-numbered-2.ensures refl)

pub returns : goal.returns
returns c = λ t. taken side_variables (IsNumber c.args.count) c.args.equations.now c.loop-equation.equation-index (omega arith) c.loop-equation.invariant

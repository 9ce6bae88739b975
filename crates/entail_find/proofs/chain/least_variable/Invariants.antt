use Rattle.std.proofs.Common.{◌≡◌, drop}
use Rattle.linear_model.specs.Chain.{least_variable, lesser}
use Rattle.entail_find.proofs.chain.least_variable.Given as goal

abbrev pub invariant-loop-item : goal.invariant-loop-item
invariant-loop-item l = lesser l.least (least_variable (drop l.item-index l.items)) ≡ least_variable l.items

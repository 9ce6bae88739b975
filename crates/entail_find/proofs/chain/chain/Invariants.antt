use Rattle.std.proofs.Common.{◌≡◌}
use Rattle.linear_model.specs.Chain.{chain, least_variable}
use Rattle.chain_laws.specs.Laws.{RisingItems, HaveMultipliers}
use Rattle.entail_find.proofs.Chains.{above}
use Rattle.entail_find.proofs.chain.chain.Given as goal

abbrev pub ghost-turn : goal.ghost-turn
ghost-turn g a = g.count

abbrev pub invariant-loop-place : goal.invariant-loop-place
invariant-loop-place g l = record {
  rising : RisingItems l.items.items;
  counts : HaveMultipliers g.count l.items.items;
  same : chain l.items.items ≡ chain l.fn.items.items;
}

abbrev pub decreases-loop-place : goal.decreases-loop-place
decreases-loop-place g l = above (least_variable l.items.items)

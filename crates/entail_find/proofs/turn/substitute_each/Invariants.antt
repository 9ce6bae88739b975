use Rattle.std.proofs.Common.{◌≡◌, List, false}
use Rattle.std.specs.Vec.Iter.{into_iter_items, into_iter_len}
use Rattle.linear_model.specs.Items.{Item}
use Rattle.linear_model.specs.Chain.{all_within}
use Rattle.chain_laws.specs.Laws.{HaveMultipliers}
use Rattle.entail_find.specs.Kept.{Adds}
use Rattle.entail_find.specs.Turning.{by_equation}
use Rattle.entail_find.proofs.turn.substitute_each.Given as goal

abbrev pub invariant-loop-item : goal.invariant-loop-item
invariant-loop-item g l = record {
  counts : HaveMultipliers g.count (into_iter_items l.rest);
  so_far : (after : List Item) → Adds l.into (by_equation l.variable l.equation (into_iter_items l.rest)) after → Adds l.initial.into (by_equation l.variable l.equation l.fn.items.items) after;
  outside : all_within (by_equation l.variable l.equation (into_iter_items l.rest)) ≡ false → all_within (by_equation l.variable l.equation l.fn.items.items) ≡ false;
}

abbrev pub decreases-loop-item : goal.decreases-loop-item
decreases-loop-item g l = into_iter_len l.rest

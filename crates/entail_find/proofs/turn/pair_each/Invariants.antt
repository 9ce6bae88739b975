use Rattle.std.proofs.Common.{◌≡◌, List, drop, false}
use Rattle.linear_model.specs.Items.{Item}
use Rattle.linear_model.specs.Chain.{all_within}
use Rattle.entail_find.specs.Kept.{Adds}
use Rattle.entail_find.specs.Turning.{by_bounds}
use Rattle.entail_find.proofs.turn.pair_each.Given as goal

abbrev pub invariant-loop-lower : goal.invariant-loop-lower
invariant-loop-lower g l = record {
  so_far : (after : List Item) → Adds l.into (by_bounds l.variable (drop l.lower-index l.lowers) l.uppers) after → Adds l.initial.into (by_bounds l.variable l.lowers l.uppers) after;
  outside : all_within (by_bounds l.variable (drop l.lower-index l.lowers) l.uppers) ≡ false → all_within (by_bounds l.variable l.lowers l.uppers) ≡ false;
}

abbrev pub ghost-pair_with_each : goal.ghost-pair_with_each
ghost-pair_with_each g a = g.count

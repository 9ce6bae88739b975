use Rattle.std.proofs.Common.{◌≡◌, List, drop, false}
use Rattle.linear_model.specs.Items.{Item}
use Rattle.linear_model.specs.Chain.{all_within}
use Rattle.entail_find.specs.Kept.{Adds}
use Rattle.entail_find.specs.Turning.{with_each}
use Rattle.entail_find.proofs.turn.pair_with_each.Given as goal

abbrev pub invariant-loop-upper : goal.invariant-loop-upper
invariant-loop-upper g l = record {
  so_far : (after : List Item) → Adds l.into (with_each l.variable l.lower (drop l.upper-index l.uppers)) after → Adds l.initial.into (with_each l.variable l.lower l.uppers) after;
  outside : all_within (with_each l.variable l.lower (drop l.upper-index l.uppers)) ≡ false → all_within (with_each l.variable l.lower l.uppers) ≡ false;
}

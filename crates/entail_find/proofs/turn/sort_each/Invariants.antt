use Rattle.std.proofs.Common.{◌≡◌, List, ◌++◌}
use Rattle.std.specs.Vec.Iter.{into_iter_items, into_iter_len}
use Rattle.linear_model.specs.Items.{Item}
use Rattle.entail_find.specs.Kept.{Adds}
use Rattle.entail_find.specs.Turning.{others_of, lowers_of, uppers_of}
use Rattle.entail_find.proofs.turn.sort_each.Given as goal

abbrev pub invariant-loop-item : goal.invariant-loop-item
invariant-loop-item l = record {
  so_far : (after : List Item) → Adds l.into (others_of l.variable (into_iter_items l.rest)) after → Adds l.initial.into (others_of l.variable l.fn.items.items) after;
  lowers : l.bounds.lowers.items ++ lowers_of l.variable (into_iter_items l.rest) ≡ lowers_of l.variable l.fn.items.items;
  uppers : l.bounds.uppers.items ++ uppers_of l.variable (into_iter_items l.rest) ≡ uppers_of l.variable l.fn.items.items;
}

abbrev pub decreases-loop-item : goal.decreases-loop-item
decreases-loop-item l = into_iter_len l.rest

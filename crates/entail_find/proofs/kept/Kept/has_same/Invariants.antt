use Rattle.std.proofs.Common.{◌≡◌, ℕ, ◌-◌, ◌<◌, ◌≤◌, length, get_or, false}
use Rattle.linear_model.specs.Items.{Item, same_normal}
use Rattle.entail_find.specs.Kept.{bucket, buckets}
use Rattle.entail_find.proofs.kept.Kept.has_same.Given as goal

abbrev pub invariant-loop-end : goal.invariant-loop-end
invariant-loop-end l = record {
  within : l.end ≤ length l.self-inside.items.items;
  in_list : 0 < l.end → get_or (buckets l.self-inside.items.items) (l.end - 1) 0 ≡ bucket l.item;
  none : (k : ℕ) (d : Item) → l.end ≤ k → k < length l.self-inside.items.items → same_normal (get_or l.self-inside.items.items k d) l.item ≡ false;
}

abbrev pub decreases-loop-end : goal.decreases-loop-end
decreases-loop-end l = l.end

use Rattle.std.proofs.Common.{◌+◌, ◌*◌, ◌≤◌, drop, take}
use Rattle.clp_model.specs.Trees.{size, total_size}
use Rattle.term_store.specs.Trees.{tree_at, trees_at, AreIn, Keeps, HaveTrees}
use Rattle.term_store.proofs.store.Store.+copy.Given as goal

abbrev pub decreases-copy : goal.decreases-copy
decreases-copy l = 2 * size (tree_at l.from.now l.t)

abbrev pub decreases-copies : goal.decreases-copies
decreases-copies l = 2 * total_size (trees_at l.from.now l.args.now) + 1

abbrev pub invariant-copies-loop-arg : goal.invariant-copies-loop-arg
invariant-copies-loop-arg l = record {
  keeps : Keeps l.fn.self l.self;
  made : HaveTrees l.self l.copies.items (trees_at l.from (take l.arg-index l.args));
  rest : AreIn l.from (drop l.arg-index l.args);
  left : total_size (trees_at l.from (drop l.arg-index l.args)) ≤ total_size (trees_at l.from l.args);
}

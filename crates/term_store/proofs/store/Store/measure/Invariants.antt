use Rattle.std.proofs.Common.{◌≡◌, ◌≤◌, ◌+◌, drop, max}
use Rattle.clp_model.specs.Trees.{total_size, greatest_depth}
use Rattle.term_store.specs.Trees.{trees_at, AreIn}
use Rattle.term_store.proofs.store.Store.measure.Given as goal

abbrev pub invariant-loop-arg : goal.invariant-loop-arg
invariant-loop-arg l = record {
  inside : AreIn l.self (drop l.arg-index l.args);
  size : l.size + total_size (trees_at l.self (drop l.arg-index l.args)) ≡ 1 + total_size (trees_at l.self l.args);
  depth : max l.depth (greatest_depth (trees_at l.self (drop l.arg-index l.args))) ≡ greatest_depth (trees_at l.self l.args);
  small : l.size ≤ 4096;
}

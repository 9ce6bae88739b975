use Rattle.std.proofs.Common.{◌<◌, length}
use Rattle.term_store.specs.Trees.{Keeps}
use Rattle.substitution_tests.proofs.board.nested.Given as goal

abbrev pub invariant-loop : goal.invariant-loop
invariant-loop l = record {
  keeps : Keeps l.fn.store l.store;
  within : l.t < length l.store;
}

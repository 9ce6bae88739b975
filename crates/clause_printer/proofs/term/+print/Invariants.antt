use Rattle.std.proofs.Common.{◌≡◌, ◌+◌, ◌*◌, ◌<◌, ◌≤◌, ◌++◌, drop, length, codes}
use Rattle.std.specs.Prelude.{string_bytes}
use Rattle.clp_model.specs.Trees.{size, total_size}
use Rattle.term_store.specs.Trees.{tree_at, trees_at, AreIn}
use Rattle.print_model.specs.Joined.{joined}
use Rattle.print_model.specs.Terms.{cell, wholes, arguments_text}
use Rattle.clause_printer.specs.Stored.{texts_at, all_texts_at}
use Rattle.clause_printer.proofs.term.+print.Given as goal

abbrev pub decreases-term : goal.decreases-term
decreases-term l = 4 * size (tree_at l.store.now l.t)

abbrev pub decreases-list : goal.decreases-list
decreases-list l = 4 * (size (tree_at l.store.now l.first) + size (tree_at l.store.now l.rest)) + 1

abbrev pub decreases-application : goal.decreases-application
decreases-application l = 4 * total_size (trees_at l.store.now l.args.now) + 3

abbrev pub decreases-applied : goal.decreases-applied
decreases-applied l = 4 * total_size (trees_at l.store.now l.args.now) + 2

abbrev pub decreases-arguments : goal.decreases-arguments
decreases-arguments l = 4 * total_size (trees_at l.store.now l.args.now) + 1

abbrev pub invariant-arguments-loop-arg : goal.invariant-arguments-loop-arg
invariant-arguments-loop-arg l = record {
  written : string_bytes l.into ++ (joined (codes ",") (codes ",") (wholes (all_texts_at l.store (drop l.arg-index l.rest))) ++ codes ")") ≡ string_bytes l.fn.into ++ arguments_text (all_texts_at l.store l.fn.args);
  inside : AreIn l.store (drop l.arg-index l.rest);
  smaller : total_size (trees_at l.store (drop l.arg-index l.rest)) < total_size (trees_at l.store l.fn.args);
}

abbrev pub invariant-list-loop-element : goal.invariant-list-loop-element
invariant-list-loop-element l = record {
  written : string_bytes l.into ++ (texts_at l.store l.rest).rest ≡ string_bytes l.fn.into ++ (cell (texts_at l.store l.fn.first) (texts_at l.store l.fn.rest)).whole;
  inside : l.rest < length l.store;
  smaller : size (tree_at l.store l.rest) ≤ size (tree_at l.store l.fn.rest);
}

abbrev pub decreases-list-loop-element : goal.decreases-list-loop-element
decreases-list-loop-element l = size (tree_at l.store l.rest)

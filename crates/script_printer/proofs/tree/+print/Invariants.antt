use Rattle.std.proofs.Common.{◌≡◌, ◌+◌, ◌*◌, ◌<◌, ◌++◌, drop, map, codes}
use Rattle.std.specs.Prelude.{string_bytes}
use Rattle.clp_model.specs.Trees.{size, total_size}
use Rattle.print_model.specs.Joined.{joined}
use Rattle.print_model.specs.Terms.{texts, wholes, arguments_text}
use Rattle.script_printer.proofs.tree.+print.Given as goal

abbrev pub decreases-term : goal.decreases-term
decreases-term l = 3 * size l.tree.now + 1

abbrev pub decreases-rest : goal.decreases-rest
decreases-rest l = 3 * size l.tree.now + 1

abbrev pub decreases-atom : goal.decreases-atom
decreases-atom l = 3 * size l.tree.now

abbrev pub decreases-arguments : goal.decreases-arguments
decreases-arguments l = 3 * total_size l.args.now + 2

abbrev pub invariant-arguments-loop-arg : goal.invariant-arguments-loop-arg
invariant-arguments-loop-arg l = record {
  written : string_bytes l.into ++ (joined (codes ",") (codes ",") (wholes (map texts (drop l.arg-index l.others))) ++ codes ")") ≡ string_bytes l.fn.into ++ arguments_text (map texts l.fn.args);
  smaller : total_size (drop l.arg-index l.others) < total_size l.fn.args;
}

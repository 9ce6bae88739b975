use Rattle.std.proofs.Common.{◌≡◌, ℕ, ◌<◌, List, length, take}
use Rattle.clp_model.specs.declared.tree.Variable.{Variable}
use Rattle.clp_model.specs.declared.tree.Tree.{Tree}
use Rattle.unify_closure.specs.Sorting.{rep_of, latest}
use Rattle.unify_closure.specs.Reading.{bindings}
use Rattle.unify.specs.Graphs.{term_at, node_tree}
use Rattle.substitution.specs.Bindings.{bound, AreBound}
use Rattle.unify.proofs.reading.read_bindings.Given as goal

abbrev pub invariant-loop-place : goal.invariant-loop-place
invariant-loop-place l = record {
  value : (store : List (Tree Variable)) → bound store l.bindings ≡ bindings l.nodes (node_tree store l.terms) (rep_of l.solved.stands.items) (latest (take l.place-index l.solved.order.items));
  within : (store : List (Tree Variable)) → ((p : ℕ) → p < length l.nodes → term_at l.terms p < length store) → AreBound store l.bindings;
}

use Rattle.std.proofs.Common.{sym, subst}
use Rattle.clp_model.specs.declared.tree.Variable.{Variable}
use Rattle.clp_model.specs.declared.tree.Tree.{Tree}
use Rattle.clp_model.specs.Trees.{IsApplication}
use Rattle.clp_model.proofs.Trees.{not_application_var}
use Rattle.term_store.specs.Trees.{tree_at, trees_at}
use Rattle.clause_store.proofs.Counts.{length_trees_at}
use Rattle.clause_resolvent.specs.Atoms.{predicate}
use Rattle.clause_resolvent.proofs.SamePredicate.{predicate_is, same_exactly}
use Rattle.clause_resolvent.proofs.predicates.have_same_predicate.Goals as goal

pub unreachable-requires : goal.unreachable-requires
unreachable-requires c =
    let P : Tree Variable → Type 0 = IsApplication in
    not_application_var _ (subst P c.in-Var.ensures.shows c.requires.left_atom)

pub returns : goal.returns
returns c =
    let store = c.args.store.now in
    same_exactly c.has_predicate.result (tree_at store c.args.a) (tree_at store c.args.b) (predicate c.in-App.name.now _)
    (predicate_is (tree_at store c.args.a) c.in-App.name.now (trees_at store c.in-App.args.now) _ c.in-App.ensures.shows.0 (sym (length_trees_at store c.in-App.args.now)))
    c.requires.right_atom c.has_predicate.ensures

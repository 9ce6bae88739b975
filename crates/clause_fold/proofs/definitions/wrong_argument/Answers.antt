use Rattle.term_store.specs.Trees.{tree_at}
use Rattle.clause_fold.proofs.Arguments.{few_arguments, no_variable}
use Rattle.clause_fold.proofs.StoredParts.{head_application}
use Rattle.clause_fold.proofs.definitions.wrong_argument.Goals as goal

pub unreachable-requires : goal.unreachable-requires
unreachable-requires c = no_variable (tree_at c.args.store.now c.args.n.now.head) _ _ c.in-Var.ensures.shows (head_application c.args.store.now c.args.n.now c.requires)

pub first_wrong-requires-clause-few : goal.first_wrong-requires-clause-few
first_wrong-requires-clause-few c = few_arguments c.args.store.now (tree_at c.args.store.now c.args.n.now.head) _ _ c.in-App.ensures.shows.0 c.in-App.ensures.small

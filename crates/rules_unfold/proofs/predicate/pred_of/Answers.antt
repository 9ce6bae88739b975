use Rattle.std.proofs.Common.{ℕ, List, length, ap, ◌∙◌, sym, arith}
use Rattle.clp_model.specs.declared.predicate.Pred.{Pred}
use Rattle.term_store.specs.Trees.{tree_at}
use Rattle.clause_fold.proofs.Arguments.{few_arguments}
use Rattle.rules_unfold.proofs.Atoms.{of_app}
use Rattle.rules_unfold.proofs.predicate.pred_of.Goals as goal

pub overflow_cast-result : goal.overflow_cast-result
overflow_cast-result c = omega (arith, few_arguments c.args.store.now (tree_at c.args.store.now c.args.atom) _ _ c.in-App.ensures.shows.0 c.in-App.ensures.small)

pub returns-in_ok-copy_of-in-App : goal.returns-in_ok-copy_of-in-App
returns-in_ok-copy_of-in-App c =
    let terms = c.in-App.args.now in
    let with_name : List ℕ → Pred = λ x. record { name = x; arity = length terms } in
    ap with_name c.in_ok-copy_of-in-App.ensures
    ∙ sym (of_app c.args.store.now (tree_at c.args.store.now c.args.atom) c.in-App.name.now terms c.in-App.ensures.shows.0)

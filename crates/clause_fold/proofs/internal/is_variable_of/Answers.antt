use Rattle.std.proofs.Common.{◌∙◌, ap, sym}
use Rattle.clp_model.specs.declared.sort.Sort.{Sort}
use Rattle.unify_model.specs.Substituting.{same_sort}
use Rattle.term_store.specs.Trees.{tree_at}
use Rattle.clause_fold.proofs.Lost.{variable_of_var}
use Rattle.clause_fold.proofs.internal.is_variable_of.Goals as goal

pub returns-in-Var : goal.returns-in-Var
returns-in-Var c =
    c.same_sort.ensures ∙ ap (λ (s : Sort). same_sort s c.args.kind) c.sort_in.ensures.value
    ∙ sym (variable_of_var c.args.sorts.now c.args.kind (tree_at c.args.scratch.now c.args.t) c.in-Var.number _ c.in-Var.ensures.shows)

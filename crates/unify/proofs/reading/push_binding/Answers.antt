use Rattle.std.proofs.Common.{◌<◌, ℕ, [], ◌∷◌, length, ◌∙◌, sym, ap, subst}
use Rattle.term_store.specs.Trees.{tree_at}
use Rattle.unify_closure.specs.Graph.{variable_of}
use Rattle.unify.specs.Graphs.{node_tree}
use Rattle.substitution.specs.Bindings.{bound, AreBound}
use Rattle.unify.proofs.ReadOut.{bound_push, are_bound_push, node_is, term_is, with_variable}
use Rattle.unify.proofs.reading.push_binding.Goals as goal

pub returns-in_ok-push-in-Var-clause-value : goal.returns-in_ok-push-in-Var-clause-value
returns-in_ok-push-in-Var-clause-value c = λ store.
    ap (bound store) c.in_ok-push-in-Var.ensures.ok ∙ bound_push store [] c.args.bindings.now _
    ∙ ap (λ (t : ℕ). (variable_of c.in-Var.number c.in-Var.sort, tree_at store t) ∷ bound store c.args.bindings.now) (term_is c.args.terms.now c.args.stands c.index-terms-stands.result (length c.args.nodes.now) c.requires.terms c.requires.stands c.index-terms-stands.is)
    ∙ sym (with_variable (node_tree store c.args.terms.now) c.args.place c.args.stands c.in-Var.number c.in-Var.sort _ (bound store c.args.bindings.now)
    (node_is c.args.nodes.now c.args.place _ c.requires.place c.index-nodes-place.is ∙ c.in-Var.is) c.if-stands-place.true)

pub returns-in_ok-push-in-Var-clause-within : goal.returns-in_ok-push-in-Var-clause-within
returns-in_ok-push-in-Var-clause-within c = λ store lt h.
    subst (AreBound store) (sym c.in_ok-push-in-Var.ensures.ok)
    (are_bound_push store c.args.bindings.now _ h (subst (λ (m : ℕ). m < length store) (sym (term_is c.args.terms.now c.args.stands c.index-terms-stands.result (length c.args.nodes.now) c.requires.terms c.requires.stands c.index-terms-stands.is)) lt))

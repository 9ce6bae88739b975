use Rattle.std.proofs.Common.{◌∙◌, refl, sym, ap, nat_eq, Some}
use Rattle.std.specs.Prelude.{cond}
use Rattle.indexmap.specs.IndexMap.{get}
use Rattle.clp_model.specs.declared.tree.Tree.{App}
use Rattle.unify_closure.specs.Graph.{all_of}
use Rattle.unify.specs.Graphs.{node_tree}
use Rattle.unify_closure.specs.declared.node.Node.TheVariants as node
use Rattle.unify.proofs.Growing.{application_put}
use Rattle.unify.proofs.graph.TermGraph.put_application.Goals as goal

pub returns : goal.returns
returns c = λ store is within below few e.
    application_put store c.args.self.now _ c.args.t (node.App c.in_ok-name.name c.args.args) is c.in_ok-place.ensures.nodes c.in_ok-place.ensures.terms within (below, few)
    (e ∙ ap (λ f. App f (all_of (node_tree store c.args.self.now.terms.items) c.args.args)) (sym c.in_ok-name.ensures))
    c.in_ok-place.place c.in_ok-name.name c.args.args refl c.in_ok-place.ensures.place c.put.ensures.variables
    (λ u. c.in_ok-insert.ensures.updates.0 u ∙ ap (λ m. cond (nat_eq c.args.t u) (Some c.in_ok-place.place) (get nat_eq m u)) c.put.ensures.applications)

use Rattle.std.proofs.Common.{◌∙◌, refl, sym, ap}
use Rattle.unify.specs.Places.{place_of}
use Rattle.unify_closure.specs.declared.node.Node.TheVariants as node
use Rattle.unify.proofs.Growing.{variable_found, variable_put}
use Rattle.unify.proofs.graph.TermGraph.enter_variable.Goals as goal

pub returns-in-Some : goal.returns-in-Some
returns-in-Some c = λ store is within e.
    variable_found store c.args.self.now _ c.args.number c.in-Some.place c.args.sort is (sym c.find.ensures ∙ c.in-Some.is) e

pub returns : goal.returns
returns c = λ store is within e.
    variable_put store c.args.self.now _ c.args.t (node.Var c.args.number c.args.sort) is c.in_ok-place.ensures.nodes c.in_ok-place.ensures.terms within tt e
    c.args.number c.in_ok-place.place c.args.sort refl c.in_ok-place.ensures.place c.put.ensures.applications
    (sym c.find.ensures ∙ c.in_default.is) c.in_ok-note.ensures.noted
    (λ m r h. c.in_ok-note.ensures.others m r h ∙ ap (λ v. place_of v m r) c.put.ensures.variables)

use Rattle.std.proofs.Common.{IfSome, ◌<◌, sym, subst, length}
use Rattle.unify_closure.specs.Reading.{HasOnePlace}
use Rattle.unify.specs.Graphs.{term_at}
use Rattle.unify_closure.specs.Solved.{IsMostGeneral}
use Rattle.substitution.specs.Bindings.{bound}
use Rattle.unify.specs.Pairs.{equations_at}
use Rattle.unify.proofs.General.{unifies, are_general}
use Rattle.unify.proofs.Entered.{has_one_place}
use Rattle.unify.proofs.unifying.unify.Goals as goal

pub enter_pairs-requires-clause-graph : goal.enter_pairs-requires-clause-graph
enter_pairs-requires-clause-graph c = c.new-graph.ensures c.args.store.now

pub solve-requires-clause-one : goal.solve-requires-clause-one
solve-requires-clause-one c = subst HasOnePlace (sym c.as_slice-nodes.ensures.value) (has_one_place c.args.store.now c.enter_pairs.new.graph c.in_ok-equations.ensures.graph)

pub in_turn-requires-clause-terms : goal.in_turn-requires-clause-terms
in_turn-requires-clause-terms c = c.in_ok-bindings.ensures.within c.args.store.now (λ p lt.
    subst (λ ts. term_at ts p < length c.args.store.now) (sym c.as_slice-2.ensures.value)
    (c.in_ok-equations.ensures.graph.nodes.within p (subst (λ ns. p < length ns) c.as_slice-nodes.ensures.value lt)))

pub returns-clause-some : goal.returns-clause-some
returns-clause-some c =
    let store = c.args.store.now in
    unifies (equations_at store c.args.pairs.now) (bound store c.in_ok-bindings.bindings) _
    (are_general store c.enter_pairs.new.graph c.args.pairs.now c.in_ok-equations.equations.items c.as_slice.result.now c.as_slice-nodes.result.now c.as_slice-2.result.now c.in-Some.solved (bound store c.in_ok-bindings.bindings)
    c.in_ok-equations.ensures c.as_slice-nodes.ensures.value c.as_slice-2.ensures.value c.as_slice.ensures.value
    (subst (λ r. IfSome r (λ s. IsMostGeneral c.as_slice-nodes.result.now c.as_slice.result.now s)) c.in-Some.is c.in_ok-solved.ensures.some)
    (c.in_ok-bindings.ensures.value store))
    c.in_ok-in_turn.ensures.images

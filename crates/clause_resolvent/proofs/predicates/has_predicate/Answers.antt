use Rattle.std.proofs.Common.{◌∙◌, sym}
use Rattle.std.proofs.lemmas.Bool.{eqb-true}
use Rattle.term_store.specs.Trees.{tree_at, trees_at}
use Rattle.clause_store.proofs.Counts.{length_trees_at}
use Rattle.clause_store.proofs.Atoms.{no_predicate, other_arity, same_arity}
use Rattle.clause_resolvent.specs.Atoms.{predicate}
use Rattle.clause_resolvent.proofs.predicates.has_predicate.Goals as goal

pub returns-in-Var : goal.returns-in-Var
returns-in-Var c = no_predicate (tree_at c.args.store.now c.args.t) c.in-Var.field-0 c.in-Var.field-1 (predicate c.args.name.now c.args.count) c.in-Var.ensures.shows

pub returns-then-args-count : goal.returns-then-args-count
returns-then-args-count c =
    let store = c.args.store.now in
    same_arity (tree_at store c.args.t) c.in-App.other.now (trees_at store c.in-App.args.now) (predicate c.args.name.now c.args.count) c.in-App.ensures.shows.0 c.eq.result
    c.eq.ensures (length_trees_at store c.in-App.args.now ∙ c.if-args-count.true)

pub returns-else-args-count : goal.returns-else-args-count
returns-else-args-count c =
    let store = c.args.store.now in
    let count = length_trees_at store c.in-App.args.now in
    other_arity (tree_at store c.args.t) c.in-App.other.now (trees_at store c.in-App.args.now) (predicate c.args.name.now c.args.count) c.in-App.ensures.shows.0 _
    (λ h. count ∙ eqb-true _ _ h) (λ e. c.if-args-count.false (sym count ∙ e))

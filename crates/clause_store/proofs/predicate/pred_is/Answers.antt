use Rattle.std.proofs.Common.{ap, ◌∙◌, sym}
use Rattle.std.specs.Str.{bytes_eq}
use Rattle.std.proofs.lemmas.Bool.{eqb-true}
use Rattle.term_store.specs.Trees.{tree_at, trees_at}
use Rattle.clause_store.proofs.Counts.{length_trees_at}
use Rattle.clause_store.proofs.Atoms.{no_predicate, other_arity, same_arity}
use Rattle.clause_store.proofs.predicate.pred_is.Goals as goal

pub returns-in-Var : goal.returns-in-Var
returns-in-Var c = no_predicate (tree_at c.args.store.now c.args.t) c.in-Var.field-0 c.in-Var.field-1 c.args.p.now c.in-Var.ensures.shows

pub returns-then-args-p : goal.returns-then-args-p
returns-then-args-p c =
    let store = c.args.store.now in
    same_arity (tree_at store c.args.t) c.in-App.name.now (trees_at store c.in-App.args.now) c.args.p.now c.in-App.ensures.shows.0 c.eq.result
    (c.eq.ensures ∙ ap (bytes_eq c.in-App.name.now) c.as_str.ensures) (length_trees_at store c.in-App.args.now ∙ c.if-args-p.true)

pub returns-else-args-p : goal.returns-else-args-p
returns-else-args-p c =
    let store = c.args.store.now in
    let count = length_trees_at store c.in-App.args.now in
    other_arity (tree_at store c.args.t) c.in-App.name.now (trees_at store c.in-App.args.now) c.args.p.now c.in-App.ensures.shows.0 _
    (λ h. count ∙ eqb-true _ _ h) (λ e. c.if-args-p.false (sym count ∙ e))

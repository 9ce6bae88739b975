use Rattle.std.proofs.Common.{◌≡◌, ap, ◌∙◌, sym, arith}
use Rattle.clp_model.specs.declared.tree.Tree.{App}
use Rattle.clp_model.specs.Trees.{mapped_all}
use Rattle.term_store.specs.Trees.{tree_at, trees_at}
use Rattle.term_store.proofs.Keeping.{keeps_trans}
use Rattle.substitution.proofs.Weighed.{item_in}
use Rattle.clause_resolvent.specs.Raised.{raise}
use Rattle.clause_resolvent.proofs.RaisedTerms.{raised_app, raised_more, small_app, low_var, low_app, low_item, falls_to_arguments, falls_to_one, if_ok_tree}
use Rattle.clause_resolvent.proofs.raising.+raised.Goals as goal

pub raised-overflow_add-by : goal.raised-overflow_add-by
raised-overflow_add-by t c =
    let n = low_var (tree_at c.args.from.now c.args.t) c.in-Var.number c.in-Var.sort c.in-Var.ensures.shows c.requires.low in
    let few = c.requires.few in
    omega arith

pub raised-raised_all-requires : goal.raised-raised_all-requires
raised-raised_all-requires t c =
    let tree = tree_at c.args.from.now c.args.t in
    let ts = trees_at c.args.from.now c.in-App.args.now in
    let is = c.in-App.ensures.shows.0 in (
      falls_to_arguments tree c.in-App.name.now ts t is c.decreases,
      (c.in-App.ensures.shows.1, (c.requires.few, low_app tree c.in-App.name.now ts is c.requires.low)),
    )

pub raised_all-raised-requires : goal.raised_all-raised-requires
raised_all-raised-requires t c =
    let from = c.args.from.now in
    let terms = c.args.terms.now in
    let i = c.loop-term.term-index in
    let term = c.term-item.result in (
      falls_to_one from terms i term t (omega arith) c.term-item.is c.decreases,
      (item_in from terms i term (omega arith) c.term-item.is c.requires.within, (c.requires.few, low_item from terms i term (omega arith) c.term-item.is c.requires.low)),
    )

pub raised-application-requires-clause-small : goal.raised-application-requires-clause-small
raised-application-requires-clause-small t c =
    let from = c.args.from.now in
    let are : trees_at c.raised_all.new.to c.as_slice.result.now ≡ mapped_all (raise c.args.by) (trees_at from c.in-App.args.now) = cc (c.in_ok-raised-in-App.ensures.made.are) in
    small_app c.args.by (tree_at from c.args.t) c.in-App.name.now (trees_at from c.in-App.args.now) (trees_at c.raised_all.new.to c.as_slice.result.now) c.in-App.ensures.shows.0 c.look.ensures.small are

pub raised-returns-in_ok-raised-in-App-clause-made : goal.raised-returns-in_ok-raised-in-App-clause-made
raised-returns-in_ok-raised-in-App-clause-made t c =
    let from = c.args.from.now in
    let are : trees_at c.raised_all.new.to c.as_slice.result.now ≡ mapped_all (raise c.args.by) (trees_at from c.in-App.args.now) = cc (c.in_ok-raised-in-App.ensures.made.are) in
    if_ok_tree c.application.result c.application.new.store (App c.in-App.name.now (trees_at c.raised_all.new.to c.as_slice.result.now)) _
    (ap (App c.in-App.name.now) are ∙ sym (raised_app c.args.by (tree_at from c.args.t) c.in-App.name.now (trees_at from c.in-App.args.now) c.in-App.ensures.shows.0))
    c.application.ensures.made

pub raised_all-loop-term-preserved : goal.raised_all-loop-term-preserved
raised_all-loop-term-preserved t c = record {
  keeps = keeps_trans c.args.to.now c.loop-term.to c.raised.new.to c.loop-term.invariant.keeps c.raised.ensures.keeps;
  made = raised_more (raise c.args.by) c.args.from.now c.loop-term.to c.raised.new.to c.args.terms.now c.loop-term.all c.push.new.self c.loop-term.term-index c.in_ok-one.one c.term-item.result
      c.loop-term.invariant.made c.raised.ensures.keeps (omega arith) c.term-item.is c.in_ok-one.ensures.made c.in_ok-push.ensures.ok;
}

use Rattle.std.proofs.Common.{◌≡◌, ap, ◌∙◌, sym, arith}
use Rattle.clp_model.specs.declared.tree.Tree.{App}
use Rattle.clp_model.specs.Trees.{mapped_all}
use Rattle.term_store.specs.Trees.{tree_at, trees_at}
use Rattle.term_store.proofs.Keeping.{keeps_trans}
use Rattle.substitution.proofs.Weighed.{item_in}
use Rattle.clause_store.proofs.Terms.{if_ok_tree}
use Rattle.rules_rows.specs.Replaced.{with_other}
use Rattle.rules_rows.proofs.Moved.{other_app, small_app, replaced_more, falls_to_arguments, falls_to_one}
use Rattle.rules_rows.proofs.replacing.+replaced.Goals as goal

pub replaced-replaced_all-requires : goal.replaced-replaced_all-requires
replaced-replaced_all-requires t c =
    let tree = tree_at c.args.from.now c.args.t in
    let ts = trees_at c.args.from.now c.in-App.args.now in
    (falls_to_arguments tree c.in-App.name.now ts t c.in-App.ensures.shows.0 c.decreases, c.in-App.ensures.shows.1)

pub replaced_all-replaced-requires : goal.replaced_all-replaced-requires
replaced_all-replaced-requires t c =
    let from = c.args.from.now in
    let terms = c.args.terms.now in
    let i = c.loop-term.term-index in
    let term = c.term-item.result in
    (falls_to_one from terms i term t (omega arith) c.term-item.is c.decreases, item_in from terms i term (omega arith) c.term-item.is c.requires)

pub replaced-application-requires-clause-small : goal.replaced-application-requires-clause-small
replaced-application-requires-clause-small t c =
    let from = c.args.from.now in
    let are : trees_at c.replaced_all.new.into c.as_slice.result.now ≡ mapped_all (with_other c.args.var c.args.to) (trees_at from c.in-App.args.now) = cc (c.in_ok-made-in-App.ensures.made.are) in
    small_app c.args.var c.args.to (tree_at from c.args.t) c.in-App.name.now (trees_at from c.in-App.args.now) (trees_at c.replaced_all.new.into c.as_slice.result.now) c.in-App.ensures.shows.0 c.look.ensures.small are

pub replaced-returns-in_ok-made-in-App-clause-made : goal.replaced-returns-in_ok-made-in-App-clause-made
replaced-returns-in_ok-made-in-App-clause-made t c =
    let from = c.args.from.now in
    let are : trees_at c.replaced_all.new.into c.as_slice.result.now ≡ mapped_all (with_other c.args.var c.args.to) (trees_at from c.in-App.args.now) = cc (c.in_ok-made-in-App.ensures.made.are) in
    if_ok_tree c.application.result c.application.new.store (App c.in-App.name.now (trees_at c.replaced_all.new.into c.as_slice.result.now)) _
    (ap (App c.in-App.name.now) are ∙ sym (other_app c.args.var c.args.to (tree_at from c.args.t) c.in-App.name.now (trees_at from c.in-App.args.now) c.in-App.ensures.shows.0))
    c.application.ensures.made

pub replaced_all-loop-term-preserved : goal.replaced_all-loop-term-preserved
replaced_all-loop-term-preserved t c = record {
  keeps = keeps_trans c.args.into.now c.loop-term.into c.replaced.new.into c.loop-term.invariant.keeps c.replaced.ensures.keeps;
  made = replaced_more (with_other c.args.var c.args.to) c.args.from.now c.loop-term.into c.replaced.new.into c.args.terms.now c.loop-term.all c.push.new.self c.loop-term.term-index c.in_ok-one.one c.term-item.result
      c.loop-term.invariant.made c.replaced.ensures.keeps (omega arith) c.term-item.is c.in_ok-one.ensures.made c.in_ok-push.ensures.ok;
}

use Rattle.std.proofs.Common.{◌≡◌, ap, ◌∙◌, sym, arith}
use Rattle.clp_model.specs.declared.tree.Tree.{App}
use Rattle.clp_model.specs.Trees.{mapped_all}
use Rattle.term_store.specs.Trees.{tree_at, trees_at}
use Rattle.term_store.proofs.Keeping.{keeps_trans, rest_in, rest_size}
use Rattle.clause_store.specs.Stored.{renumber}
use Rattle.clause_store.proofs.Terms.{renamed_app, renamed_more, small_app, if_ok_tree}
use Rattle.clause_store.proofs.renaming.+renamed.Goals as goal

pub renamed-application-requires-clause-small : goal.renamed-application-requires-clause-small
renamed-application-requires-clause-small t c =
    let old = c.args.store.now in
    let name = c.as_str.result.now in
    let is : tree_at old c.args.t ≡ App name (trees_at old c.as_slice.result.now) = cc (c.in-App.ensures.shows.0, c.in_ok-name-in-App.ensures, c.in_ok-args-in-App.ensures, c.as_str.ensures) in
    let are : trees_at c.renamed_all.new.store c.as_slice-in-App.result.now ≡ mapped_all (renumber c.args.met.now) (trees_at old c.as_slice.result.now) = cc (c.in_ok-renamed-in-App.ensures.made.are) in
    small_app c.args.met.now (tree_at old c.args.t) name (trees_at old c.as_slice.result.now) (trees_at c.renamed_all.new.store c.as_slice-in-App.result.now) is c.look.ensures.small are

pub renamed-returns-in_ok-renamed-in-App-clause-made : goal.renamed-returns-in_ok-renamed-in-App-clause-made
renamed-returns-in_ok-renamed-in-App-clause-made t c =
    let old = c.args.store.now in
    let name = c.as_str.result.now in
    let is : tree_at old c.args.t ≡ App name (trees_at old c.as_slice.result.now) = cc (c.in-App.ensures.shows.0, c.in_ok-name-in-App.ensures, c.in_ok-args-in-App.ensures, c.as_str.ensures) in
    let are : trees_at c.renamed_all.new.store c.as_slice-in-App.result.now ≡ mapped_all (renumber c.args.met.now) (trees_at old c.as_slice.result.now) = cc (c.in_ok-renamed-in-App.ensures.made.are) in
    if_ok_tree c.application.result c.application.new.store (App name (trees_at c.renamed_all.new.store c.as_slice-in-App.result.now)) _
    (ap (App name) are ∙ sym (renamed_app c.args.met.now (tree_at old c.args.t) name (trees_at old c.as_slice.result.now) is))
    c.application.ensures.made

pub renamed_all-loop-term-preserved : goal.renamed_all-loop-term-preserved
renamed_all-loop-term-preserved t c = record {
  keeps = keeps_trans c.args.store.now c.loop-term.store c.renamed.new.store c.loop-term.invariant.keeps c.renamed.ensures.keeps;
  made = renamed_more (renumber c.args.met.now) c.args.store.now c.loop-term.store c.renamed.new.store c.args.terms.now c.loop-term.all c.push.new.self c.loop-term.term-index c.in_ok-one.one c.term-item.result
      c.loop-term.invariant.made c.loop-term.invariant.keeps c.renamed.ensures.keeps (omega arith) c.loop-term.invariant.rest c.term-item.is c.in_ok-one.ensures.made c.in_ok-push.ensures.ok;
  rest = rest_in c.args.store.now c.args.terms.now c.loop-term.term-index (omega arith) c.loop-term.invariant.rest;
  left = omega (arith, c.loop-term.invariant.left, rest_size c.args.store.now c.args.terms.now c.loop-term.term-index (omega arith));
}

use Rattle.std.proofs.Common.{arith}
use Rattle.std.proofs.lemmas.Result.{err_from_is_err_and}
use Rattle.term_store.proofs.Keeping.{keeps_trans}
use Rattle.term_store.specs.Trees.{trees_at}
use Rattle.clause_loader.proofs.Typed.{typed_more, over_typed, over_at}
use Rattle.clause_loader.proofs.build.+term_of.Goals as goal

pub term_of-returns-in_ok-terms-in-App-clause-large :
    goal.term_of-returns-in_ok-terms-in-App-clause-large
term_of-returns-in_ok-terms-in-App-clause-large t c = λ h.
    over_typed c.args.sorts.now c.args.tree.now _ c.as_slice.result.now (trees_at c.terms_of.new.store c.as_slice-in-App.result.now)
    (let e = c.in-App.is in let f = c.as_slice.ensures in let g = c.as_str.ensures in cc)
    (let e = c.in_ok-terms-in-App.ensures.made.are in let f = c.as_slice-in-App.ensures in cc) (c.app.ensures.large h)

pub terms_of-loop-tree-preserved : goal.terms_of-loop-tree-preserved
terms_of-loop-tree-preserved t c = record {
  keeps = keeps_trans c.args.store.now c.loop-tree.store c.term_of.new.store c.loop-tree.invariant.keeps c.term_of.ensures.keeps;
  made = typed_more c.args.sorts.now c.loop-tree.store c.term_of.new.store c.args.trees.now c.loop-tree.terms.items c.push.new.self.items c.loop-tree.tree-index c.in_ok-term.term c.tree-item.result
      c.loop-tree.invariant.made c.term_of.ensures.keeps (omega arith) c.tree-item.is c.in_ok-term.ensures.made c.in_ok-push.ensures.ok;
}

pub terms_of-returns-in_err-term-clause-large : goal.terms_of-returns-in_err-term-clause-large
terms_of-returns-in_err-term-clause-large t c = λ h.
    let p = err_from_is_err_and c.from_residual.result c.from_residual.ensures.1 in
    let made = p.1 in
    let same = p.2 in
    over_at c.args.trees.now c.loop-tree.tree-index c.tree-item.result (omega arith) c.tree-item.is (c.in_err-term.ensures.large cc)

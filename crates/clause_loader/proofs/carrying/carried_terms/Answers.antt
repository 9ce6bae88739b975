use Rattle.std.proofs.Common.{arith}
use Rattle.std.proofs.lemmas.Result.{err_from_is_err_and}
use Rattle.clp_model.specs.declared.tree.Variable.{Variable}
use Rattle.clp_model.specs.declared.tree.Tree.{Tree}
use Rattle.std.proofs.Common.{subst}
use Rattle.term_store.specs.Trees.{HasTree, IsTooLarge}
use Rattle.term_store.proofs.Keeping.{keeps_trans}
use Rattle.substitution.specs.Weights.{images}
use Rattle.substitution.proofs.Kept.{is_of_kept, same_images}
use Rattle.clause_loader.specs.Carried.{with_images}
use Rattle.clause_loader.proofs.Growing.{images_more, past_at}
use Rattle.clause_loader.proofs.carrying.carried_terms.Goals as goal

pub carried_term-requires : goal.carried_term-requires
carried_term-requires c = record { of = is_of_kept c.args.store.now c.loop-tree.store c.loop-tree.invariant.keeps c.args.s.now c.requires.of }

pub returns-in_err-term-clause-large : goal.returns-in_err-term-clause-large
returns-in_err-term-clause-large c = λ h.
    let p = err_from_is_err_and c.from_residual.result c.from_residual.ensures.1 in
    let made = p.1 in
    let is_same = p.2 in
    let same = same_images c.args.store.now c.loop-tree.store c.loop-tree.invariant.keeps c.args.s.now c.requires.of in
    let P : (Variable → Tree Variable) → Type 0 = λ g. IsTooLarge (with_images c.args.sorts.now g c.tree-item.result) in
    past_at c.args.sorts.now (images c.args.store.now c.args.s.now) c.args.trees.now c.loop-tree.tree-index c.tree-item.result (omega arith) c.tree-item.is (subst P same (c.in_err-term.ensures.large cc))

pub loop-tree-preserved : goal.loop-tree-preserved
loop-tree-preserved c =
    let same = same_images c.args.store.now c.loop-tree.store c.loop-tree.invariant.keeps c.args.s.now c.requires.of in
    let P : (Variable → Tree Variable) → Type 0 = λ g. HasTree c.carried_term.new.store c.in_ok-term.term (with_images c.args.sorts.now g c.tree-item.result) in
    record {
      keeps = keeps_trans c.args.store.now c.loop-tree.store c.carried_term.new.store c.loop-tree.invariant.keeps c.carried_term.ensures.keeps;
      made = images_more c.args.sorts.now (images c.args.store.now c.args.s.now) c.loop-tree.store c.carried_term.new.store c.args.trees.now c.loop-tree.terms c.push.new.self c.loop-tree.tree-index c.in_ok-term.term c.tree-item.result
          c.loop-tree.invariant.made c.carried_term.ensures.keeps (omega arith) c.tree-item.is (subst P same c.in_ok-term.ensures.made) c.in_ok-push.ensures.ok;
    }

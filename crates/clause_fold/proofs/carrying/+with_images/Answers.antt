use Rattle.std.proofs.Common.{◌≡◌, refl, ap, ◌∙◌, sym, subst, arith}
use Rattle.std.proofs.lemmas.Result.{err_from_is_err_and}
use Rattle.clp_model.specs.declared.tree.Variable.{Variable}
use Rattle.clp_model.specs.declared.tree.Tree.{Tree, App}
use Rattle.unify_model.specs.Substituting.{substituted, substituted_all}
use Rattle.term_store.specs.Trees.{tree_at, trees_at, HasTree, IsTooLarge}
use Rattle.term_store.proofs.Keeping.{keeps_in, keeps_trans}
use Rattle.substitution.proofs.Weighed.{item_in, sub_app}
use Rattle.substitution.proofs.Built.{app_large, past_at, if_ok_tree}
use Rattle.clause_fold.specs.Images.{image_of}
use Rattle.clause_fold.proofs.Marked.{term_numbered}
use Rattle.clause_fold.proofs.ImageTerms.{same_with_images}
use Rattle.clause_fold.proofs.CarriedTerms.{number_here, numbers_below, image_here, carried_more, falls_to_arguments, falls_to_one}
use Rattle.clause_fold.proofs.carrying.+with_images.Goals as goal

pub with_images-image_at-requires : goal.with_images-image_at-requires
with_images-image_at-requires t c = number_here _ (tree_at c.args.store.now c.args.t) c.in-Var.number _ c.in-Var.ensures.shows c.requires.numbered

pub with_images-returns-in-Var-clause-made : goal.with_images-returns-in-Var-clause-made
with_images-returns-in-Var-clause-made t c =
    let tree = tree_at c.args.store.now c.args.t in
    image_here c.args.scratch.now c.args.images.now tree c.in-Var.number _ c.image_at.result c.in-Var.ensures.shows c.requires.images (number_here _ tree c.in-Var.number _ c.in-Var.ensures.shows c.requires.numbered) c.image_at.ensures

pub with_images-all_with_images-requires : goal.with_images-all_with_images-requires
with_images-all_with_images-requires t c =
    let store = c.args.store.now in
    let tree = tree_at store c.args.t in
    let is = c.in-App.ensures.shows.0 in (
      falls_to_arguments tree c.in-App.name.now (trees_at store c.in-App.args.now) t is c.decreases,
      (c.requires.images, (c.in-App.ensures.shows.1, numbers_below store _ tree c.in-App.name.now c.in-App.args.now is c.requires.numbered)),
    )

pub with_images-returns-in_err-terms-in-App-clause-large : goal.with_images-returns-in_err-terms-in-App-clause-large
with_images-returns-in_err-terms-in-App-clause-large t c = λ h.
    let p = err_from_is_err_and c.from_residual.result c.from_residual.ensures.1 in
    let made = p.1 in
    let same = p.2 in
    let f = image_of c.args.scratch.now c.args.images.now in
    let ts = trees_at c.args.store.now c.in-App.args.now in
    subst IsTooLarge (sym (sub_app f (tree_at c.args.store.now c.args.t) c.in-App.name.now ts c.in-App.ensures.shows.0)) (app_large c.in-App.name.now (substituted_all f ts) (c.in_err-terms-in-App.ensures.large cc))

pub with_images-returns-in_ok-terms-in-App-clause-made : goal.with_images-returns-in_ok-terms-in-App-clause-made
with_images-returns-in_ok-terms-in-App-clause-made t c =
    let f = image_of c.args.scratch.now c.args.images.now in
    let ts = trees_at c.args.store.now c.in-App.args.now in
    let are : trees_at c.all_with_images.new.scratch c.as_slice.result.now ≡ substituted_all f ts = cc (c.in_ok-terms-in-App.ensures.made.are) in
    if_ok_tree c.app.result c.app.new.self (App c.in-App.name.now (trees_at c.all_with_images.new.scratch c.as_slice.result.now)) _
    (ap (App c.in-App.name.now) are ∙ sym (sub_app f (tree_at c.args.store.now c.args.t) c.in-App.name.now ts c.in-App.ensures.shows.0))
    c.app.ensures.made

pub with_images-returns-in_ok-terms-in-App-clause-large : goal.with_images-returns-in_ok-terms-in-App-clause-large
with_images-returns-in_ok-terms-in-App-clause-large t c = λ h.
    let f = image_of c.args.scratch.now c.args.images.now in
    let ts = trees_at c.args.store.now c.in-App.args.now in
    let are : trees_at c.all_with_images.new.scratch c.as_slice.result.now ≡ substituted_all f ts = cc (c.in_ok-terms-in-App.ensures.made.are) in
    subst IsTooLarge (ap (App c.in-App.name.now) are ∙ sym (sub_app f (tree_at c.args.store.now c.args.t) c.in-App.name.now ts c.in-App.ensures.shows.0)) (c.app.ensures.large h)

pub all_with_images-with_images-requires : goal.all_with_images-with_images-requires
all_with_images-with_images-requires t c =
    let store = c.args.store.now in
    let terms = c.args.terms.now in
    let i = c.loop-term.term-index in
    let term = c.term-item.result in (
      falls_to_one store terms i term t (omega arith) c.term-item.is c.decreases,
      (
        keeps_in c.args.scratch.now c.loop-term.scratch c.loop-term.invariant.keeps c.args.images.now c.requires.images,
        (item_in store terms i term (omega arith) c.term-item.is c.requires.within, term_numbered store terms i term _ _ (omega arith) c.term-item.is refl c.requires.numbered),
      ),
    )

pub all_with_images-returns-in_err-one-clause-large : goal.all_with_images-returns-in_err-one-clause-large
all_with_images-returns-in_err-one-clause-large t c = λ h.
    let p = err_from_is_err_and c.from_residual.result c.from_residual.ensures.1 in
    let made = p.1 in
    let is_same = p.2 in
    let store = c.args.store.now in
    let terms = c.args.terms.now in
    let i = c.loop-term.term-index in
    let term = c.term-item.result in
    let numbered = term_numbered store terms i term _ _ (omega arith) c.term-item.is refl c.requires.numbered in
    past_at (image_of c.args.scratch.now c.args.images.now) store terms i term (omega arith) c.term-item.is
    (subst IsTooLarge (same_with_images c.args.scratch.now c.loop-term.scratch c.loop-term.invariant.keeps c.args.images.now (tree_at store term) c.requires.images numbered) (c.in_err-one.ensures.large cc))

pub all_with_images-loop-term-preserved : goal.all_with_images-loop-term-preserved
all_with_images-loop-term-preserved t c =
    let old = c.args.scratch.now in
    let mid = c.loop-term.scratch in
    let new = c.with_images.new.scratch in
    let store = c.args.store.now in
    let terms = c.args.terms.now in
    let i = c.loop-term.term-index in
    let term = c.term-item.result in
    let numbered = term_numbered store terms i term _ _ (omega arith) c.term-item.is refl c.requires.numbered in
    let P : Tree Variable → Type 0 = HasTree new c.in_ok-one.one in
    record {
      keeps = keeps_trans old mid new c.loop-term.invariant.keeps c.with_images.ensures.keeps;
      made = carried_more (image_of old c.args.images.now) store mid new terms c.loop-term.all c.push.new.self i c.in_ok-one.one term
          c.loop-term.invariant.made c.with_images.ensures.keeps (omega arith) c.term-item.is
          (subst P (same_with_images old mid c.loop-term.invariant.keeps c.args.images.now (tree_at store term) c.requires.images numbered) c.in_ok-one.ensures.made) c.in_ok-push.ensures.ok;
    }

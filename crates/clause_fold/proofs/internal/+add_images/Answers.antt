use Rattle.std.proofs.Common.{arith, refl, length}
use Rattle.clp_model.specs.Trees.{variables, variables_in}
use Rattle.term_store.specs.Trees.{tree_at, trees_at}
use Rattle.substitution.proofs.Weighed.{item_in}
use Rattle.clause_store.specs.Stored.{atoms_at}
use Rattle.clause_fold.specs.Images.{image_by}
use Rattle.clause_fold.proofs.Marked.{term_numbered}
use Rattle.clause_fold.proofs.StoredParts.{numbered_as}
use Rattle.clause_fold.proofs.CarriedTerms.{number_here, numbers_below, falls_to_arguments, falls_to_one}
use Rattle.clause_fold.proofs.Lost.{image_is_in, image_numbered, marked_var, marked_app, marked_more}
use Rattle.clause_fold.proofs.internal.+add_images.Goals as goal

pub add_images-image_at-requires : goal.add_images-image_at-requires
add_images-image_at-requires t c = number_here _ (tree_at c.args.store.now c.args.t) c.in-Var.number _ c.in-Var.ensures.shows c.requires.places

pub add_images-add_term-requires-clause-within : goal.add_images-add_term-requires-clause-within
add_images-add_term-requires-clause-within t c =
    let w = number_here _ (tree_at c.args.store.now c.args.t) c.in-Var.number _ c.in-Var.ensures.shows c.requires.places in
    image_is_in c.args.scratch.now c.args.images.now c.in-Var.number c.image_at.result c.requires.images w c.image_at.ensures

pub add_images-add_term-requires-clause-numbered : goal.add_images-add_term-requires-clause-numbered
add_images-add_term-requires-clause-numbered t c =
    let w = number_here _ (tree_at c.args.store.now c.args.t) c.in-Var.number _ c.in-Var.ensures.shows c.requires.places in
    image_numbered c.args.scratch.now c.args.images.now (length c.args.marks.now) c.in-Var.number c.image_at.result w c.image_at.ensures c.requires.numbered

pub add_images-returns-in-Var : goal.add_images-returns-in-Var
add_images-returns-in-Var t c =
    marked_var c.args.scratch.now c.args.images.now (tree_at c.args.store.now c.args.t) c.in-Var.number _ c.image_at.result c.args.marks.now c.add_term.new.self c.in-Var.ensures.shows c.image_at.ensures c.add_term.ensures

pub add_images-add_all_images-requires : goal.add_images-add_all_images-requires
add_images-add_all_images-requires t c =
    let store = c.args.store.now in
    let tree = tree_at store c.args.t in
    let is = c.in-App.ensures.shows.0 in (
      falls_to_arguments tree c.in-App.field-0.now (trees_at store c.in-App.args.now) t is c.decreases,
      (c.requires.images, (c.requires.numbered, (c.in-App.ensures.shows.1, numbers_below store _ tree c.in-App.field-0.now c.in-App.args.now is c.requires.places))),
    )

pub add_images-returns-in-App : goal.add_images-returns-in-App
add_images-returns-in-App t c =
    marked_app c.args.scratch.now c.args.store.now c.args.images.now (tree_at c.args.store.now c.args.t) c.in-App.field-0.now c.in-App.args.now c.args.marks.now c.add_all_images.new.marks c.in-App.ensures.shows.0
    c.add_all_images.ensures

pub add_all_images-add_images-requires : goal.add_all_images-add_images-requires
add_all_images-add_images-requires t c =
    let store = c.args.store.now in
    let terms = c.args.terms.now in
    let i = c.loop-term.term-index in
    let term = c.term-item.result in (
      falls_to_one store terms i term t (omega arith) c.term-item.is c.decreases,
      (
        c.requires.images,
        (
          numbered_as (length c.args.marks.now) (length c.loop-term.marks) (variables_in (atoms_at c.args.scratch.now c.args.images.now)) c.loop-term.invariant.count c.requires.numbered,
          (item_in store terms i term (omega arith) c.term-item.is c.requires.within, term_numbered store terms i term _ _ (omega arith) c.term-item.is refl c.requires.places),
        ),
      ),
    )

pub add_all_images-loop-term-preserved : goal.add_all_images-loop-term-preserved
add_all_images-loop-term-preserved t c =
    marked_more (image_by c.args.scratch.now c.args.images.now) c.args.store.now c.args.terms.now c.loop-term.term-index c.term-item.result c.args.marks.now c.loop-term.marks c.add_images.new.marks (omega arith) c.term-item.is
    c.loop-term.invariant c.add_images.ensures

use Rattle.std.proofs.Common.{◌≡◌, ap, ◌∙◌, sym, subst, arith}
use Rattle.clp_model.specs.declared.tree.Variable.{Variable}
use Rattle.clp_model.specs.declared.tree.Tree.{Tree, App}
use Rattle.term_store.specs.Trees.{tree_at, trees_at, AreIn, HasTree, IsTooLarge}
use Rattle.term_store.proofs.Keeping.{keeps_trans, keeps_at, keeps_all, keeps_within}
use Rattle.unify_model.specs.Substituting.{substituted_all}
use Rattle.substitution.specs.Bindings.{variable_of, bound, bound_variables}
use Rattle.substitution.specs.Images.{images_by, images_of, carried, AreOrdered}
use Rattle.substitution.specs.Made.{with_images}
use Rattle.substitution.proofs.Weighed.{sub_var, sub_app, item_in}
use Rattle.substitution.proofs.Carried.{image_at, unbound_image, height_at_place, term_within}
use Rattle.substitution.proofs.Built.{are_images_kept, with_kept, made_kept, made_more, app_large, past_at, built_more, if_ok_tree, err_other, falls_to_variable, falls_to_term, falls_to_arguments, falls_to_one}
use Rattle.substitution.proofs.building.+build.Goals as goal

pub build-build_variable-requires : goal.build-build_variable-requires
build-build_variable-requires t c = (
  falls_to_variable (bound_variables c.args.images.now.bindings) (tree_at c.args.store.now c.args.t) (variable_of c.in-Var.number c.in-Var.sort) t c.in-Var.ensures.shows c.decreases,
  (c.requires.within, (c.in-Var.ensures.shows, (c.requires.of, c.requires.made))),
)

pub build-returns-in-Some-clause-value : goal.build-returns-in-Some-clause-value
build-returns-in-Some-clause-value t c = (c.requires.made c.args.t c.in-Some.r.now (sym c.in-Some.ensures.value)).1

pub build-build_all-requires : goal.build-build_all-requires
build-build_all-requires t c =
    let old = c.args.store.now in
    let name = c.in-App.name.now in
    let ts = trees_at old c.as_slice.result.now in
    let is : tree_at old c.args.t ≡ App name ts = cc (c.in-App.ensures.shows.0, c.in_ok-args-in-App.ensures) in
    let P : _ → Type 0 = AreIn old in (
      falls_to_arguments (bound_variables c.args.images.now.bindings) (tree_at old c.args.t) name ts t is c.in-App.ensures.small c.decreases,
      (subst P (cc (c.in_ok-args-in-App.ensures)) c.in-App.ensures.shows.1, (c.requires.of, c.requires.made)),
    )

pub build-returns-in-Err-clause-large : goal.build-returns-in-Err-clause-large
build-returns-in-Err-clause-large t c = λ h.
    let old = c.args.store.now in
    let f = images_of old c.args.images.now in
    let name = c.in-App.name.now in
    let ts = trees_at old c.as_slice.result.now in
    let is : tree_at old c.args.t ≡ App name ts = cc (c.in-App.ensures.shows.0, c.in_ok-args-in-App.ensures) in
    subst IsTooLarge (sym (sub_app f (tree_at old c.args.t) name ts is)) (app_large name (substituted_all f ts) (c.in-Err.ensures.large (err_other h)))

pub build-returns-in-Var-clause-value : goal.build-returns-in-Var-clause-value
build-returns-in-Var-clause-value t c =
    let f = images_of c.args.store.now c.args.images.now in
    let v = variable_of c.in-Var.number c.in-Var.sort in
    if_ok_tree c.build_variable.result c.build_variable.new.store (f v) _ (sym (sub_var f (tree_at c.args.store.now c.args.t) v c.in-Var.ensures.shows)) c.build_variable.ensures.value

pub build-returns-in-Var-clause-large : goal.build-returns-in-Var-clause-large
build-returns-in-Var-clause-large t c = λ h.
    let f = images_of c.args.store.now c.args.images.now in
    let v = variable_of c.in-Var.number c.in-Var.sort in
    subst IsTooLarge (sym (sub_var f (tree_at c.args.store.now c.args.t) v c.in-Var.ensures.shows)) (c.build_variable.ensures.large h)

pub build_all-build-requires : goal.build_all-build-requires
build_all-build-requires t c =
    let i = c.loop-term.invariant in
    let old = c.args.store.now in
    let within = item_in old c.args.terms.now c.loop-term.term-index c.term-item.result (omega arith) c.term-item.is c.requires.within in (
      falls_to_one (bound_variables c.args.images.now.bindings) old c.loop-term.store i.keeps c.args.terms.now c.loop-term.term-index c.term-item.result t (omega arith) c.requires.within c.term-item.is c.decreases,
      (keeps_within old c.loop-term.store i.keeps c.term-item.result within, (are_images_kept old c.loop-term.store i.keeps c.args.images.now c.requires.of, i.made)),
    )

pub build_all-returns-in-Err-clause-large : goal.build_all-returns-in-Err-clause-large
build_all-returns-in-Err-clause-large t c = λ h.
    let i = c.loop-term.invariant in
    let old = c.args.store.now in
    let m = c.args.images.now in
    let within = item_in old c.args.terms.now c.loop-term.term-index c.term-item.result (omega arith) c.term-item.is c.requires.within in
    past_at (images_of old m) old c.args.terms.now c.loop-term.term-index c.term-item.result (omega arith) c.term-item.is
    (subst IsTooLarge (with_kept old c.loop-term.store i.keeps m c.requires.of (tree_at c.loop-term.store c.term-item.result) ∙ ap (with_images old m) (keeps_at old c.loop-term.store i.keeps c.term-item.result within)) (c.in-Err.ensures.large (err_other h)))

pub build_all-loop-term-preserved : goal.build_all-loop-term-preserved
build_all-loop-term-preserved t c =
    let i = c.loop-term.invariant in
    let old = c.args.store.now in
    let m = c.args.images.now in
    let P : Tree Variable → Type 0 = HasTree c.build.new.store c.in-Ok.one in
    record {
      keeps = keeps_trans old c.loop-term.store c.build.new.store i.keeps c.build.ensures.keeps;
      value =
          built_more (images_of old m) old c.loop-term.store c.build.new.store c.args.terms.now c.loop-term.all c.push.new.self c.loop-term.term-index c.in-Ok.one c.term-item.result
          i.value i.keeps c.build.ensures.keeps (omega arith) c.requires.within c.term-item.is
          (subst P (with_kept old c.loop-term.store i.keeps m c.requires.of (tree_at c.loop-term.store c.term-item.result)) c.in-Ok.ensures.value)
          c.in_ok-push.ensures.ok;
      made = c.in-Ok.ensures.made;
    }

pub build_variable-returns-in_default-clause-value : goal.build_variable-returns-in_default-clause-value
build_variable-returns-in_default-clause-value t c = record {
  within = c.requires.within;
  is = c.requires.is ∙ sym (unbound_image c.args.store.now c.args.images.now.kind c.args.images.now.bindings (variable_of c.args.number c.args.sort) c.in_default.ensures.none);
}

pub build_variable-build-requires : goal.build_variable-build-requires
build_variable-build-requires t c =
    let old = c.args.store.now in
    let items = c.args.images.now.bindings in
    let k = c.args.images.now.kind in
    let P : _ → Type 0 = λ x. AreOrdered x (bound old items) in
    let low = height_at_place old items c.in-Some.place c.at-term.result c.at-term.ensures (subst P c.in-InTurn.is c.requires.of.order) in (
      falls_to_term (bound_variables items) (tree_at old c.at-term.result.term) (variable_of c.args.number c.args.sort) c.in-Some.place t c.in-Some.ensures.some low c.decreases,
      (term_within old items c.in-Some.place c.at-term.result c.at-term.ensures c.requires.of.terms, (c.requires.of, c.requires.made)),
    )

pub build_variable-returns-in-AtOnce-clause-value : goal.build_variable-returns-in-AtOnce-clause-value
build_variable-returns-in-AtOnce-clause-value t c =
    let old = c.args.store.now in
    let items = c.args.images.now.bindings in
    let k = c.args.images.now.kind in
    let e = image_at old items c.in-Some.place c.at-term.result c.at-term.ensures k c.requires.of.order (variable_of c.args.number c.args.sort) c.in-Some.ensures.some in
    record {
      within = term_within old items c.in-Some.place c.at-term.result c.at-term.ensures c.requires.of.terms;
      is = sym (e ∙ ap (λ x. carried x (images_by k (bound old items)) (tree_at old c.at-term.result.term)) c.in-AtOnce.is);
    }

pub build_variable-returns-in-InTurn-clause-value : goal.build_variable-returns-in-InTurn-clause-value
build_variable-returns-in-InTurn-clause-value t c =
    let old = c.args.store.now in
    let items = c.args.images.now.bindings in
    let k = c.args.images.now.kind in
    let e = image_at old items c.in-Some.place c.at-term.result c.at-term.ensures k c.requires.of.order (variable_of c.args.number c.args.sort) c.in-Some.ensures.some in
    if_ok_tree c.build.result c.build.new.store _ _ (sym (e ∙ ap (λ x. carried x (images_by k (bound old items)) (tree_at old c.at-term.result.term)) c.in-InTurn.is)) c.build.ensures.value

pub build_variable-returns-in-InTurn-clause-large : goal.build_variable-returns-in-InTurn-clause-large
build_variable-returns-in-InTurn-clause-large t c = λ h.
    let old = c.args.store.now in
    let items = c.args.images.now.bindings in
    let k = c.args.images.now.kind in
    let e = image_at old items c.in-Some.place c.at-term.result c.at-term.ensures k c.requires.of.order (variable_of c.args.number c.args.sort) c.in-Some.ensures.some in
    subst IsTooLarge (sym (e ∙ ap (λ x. carried x (images_by k (bound old items)) (tree_at old c.at-term.result.term)) c.in-InTurn.is)) (c.build.ensures.large h)

pub build-renewed-requires-clause-is : goal.build-renewed-requires-clause-is
build-renewed-requires-clause-is t c =
    let old = c.args.store.now in
    let new = c.build_all.new.store in
    let name = c.as_str.result.now in
    let args = c.as_slice-in-App.result.now in
    let is : tree_at old c.args.t ≡ App name (trees_at old args) = cc (c.in-App.ensures.shows.0, c.in_ok-name-in-App.ensures, c.in_ok-args-in-App.ensures, c.as_str.ensures) in
    let P : _ → Type 0 = AreIn old in
    let are : AreIn old args = subst P (cc (c.in_ok-args-in-App.ensures)) c.in-App.ensures.shows.1 in
    keeps_at old new c.in-Ok.ensures.keeps c.args.t c.requires.within ∙ is ∙ ap (App name) (sym (keeps_all old new c.in-Ok.ensures.keeps args are))

pub build-returns-in-Err-renewed-clause-large : goal.build-returns-in-Err-renewed-clause-large
build-returns-in-Err-renewed-clause-large t c = λ h.
    let old = c.args.store.now in
    let f = images_of old c.args.images.now in
    let name = c.as_str.result.now in
    let ts = trees_at old c.as_slice.result.now in
    let is : tree_at old c.args.t ≡ App name ts = cc (c.in-App.ensures.shows.0, c.in_ok-name-in-App.ensures, c.in_ok-args-in-App.ensures, c.as_str.ensures) in
    let are : trees_at c.build_all.new.store c.as_slice-in-App-2.result.now ≡ substituted_all f ts = cc (c.in-Ok.ensures.value.are) in
    subst IsTooLarge (ap (App name) are ∙ sym (sub_app f (tree_at old c.args.t) name ts is)) (c.in-Err-renewed.ensures.large (err_other h))

pub build-returns-in_ok-insert-in-App-clause-value : goal.build-returns-in_ok-insert-in-App-clause-value
build-returns-in_ok-insert-in-App-clause-value t c =
    let old = c.args.store.now in
    let f = images_of old c.args.images.now in
    let name = c.as_str.result.now in
    let ts = trees_at old c.as_slice.result.now in
    let is : tree_at old c.args.t ≡ App name ts = cc (c.in-App.ensures.shows.0, c.in_ok-name-in-App.ensures, c.in_ok-args-in-App.ensures, c.as_str.ensures) in
    let are : trees_at c.build_all.new.store c.as_slice-in-App-2.result.now ≡ substituted_all f ts = cc (c.in-Ok.ensures.value.are) in
    let P : Tree Variable → Type 0 = HasTree c.renewed.new.store c.in-Ok-renewed.r in
    subst P (ap (App name) are ∙ sym (sub_app f (tree_at old c.args.t) name ts is)) c.in-Ok-renewed.ensures.value

pub build-returns-in_ok-insert-in-App-clause-made : goal.build-returns-in_ok-insert-in-App-clause-made
build-returns-in_ok-insert-in-App-clause-made t c =
    let old = c.args.store.now in
    let mid = c.build_all.new.store in
    let new = c.renewed.new.store in
    let m = c.args.images.now in
    let k = keeps_trans old mid new c.in-Ok.ensures.keeps c.in-Ok-renewed.ensures.keeps in
    let P : Tree Variable → Type 0 = HasTree new c.in-Ok-renewed.r in
    made_more new m c.build_all.new.made c.insert.new.self c.args.t c.in-Ok-renewed.r c.in_ok-insert-in-App.ensures.updates
    (made_kept mid new c.in-Ok-renewed.ensures.keeps m (are_images_kept old mid c.in-Ok.ensures.keeps m c.requires.of) c.build_all.new.made c.in-Ok.ensures.made)
    (keeps_within old new k c.args.t c.requires.within)
    (subst P (ap (with_images old m) (sym (keeps_at old new k c.args.t c.requires.within)) ∙ sym (with_kept old new k m c.requires.of (tree_at new c.args.t))) (build-returns-in_ok-insert-in-App-clause-value t c))

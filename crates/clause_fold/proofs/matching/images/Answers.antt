use Rattle.std.proofs.Common.{◌≡◌, ℕ, List, suc, ◌+◌, ◌++◌, ◌∷◌, [], drop, length, get_or, true, false, refl, ◌<◌, sym, subst, ◌∙◌, ap, arith}
use Rattle.std.specs.List.{filter}
use Rattle.clp_model.specs.declared.sort.Sort.{Sort}
use Rattle.clp_model.specs.declared.tree.Variable.{Variable}
use Rattle.clp_model.specs.declared.tree.Tree.{Tree, Var}
use Rattle.clp_model.specs.Trees.{variables_in}
use Rattle.clp_model.specs.Clauses.{sort_in}
use Rattle.term_store.specs.Trees.{trees_at, HasTree, Keeps}
use Rattle.term_store.proofs.Keeping.{keeps_trans}
use Rattle.substitution.specs.Weights.{images}
use Rattle.substitution.proofs.Kept.{is_of_kept, same_images}
use Rattle.clause_model.specs.Solved.{typed_variable}
use Rattle.clause_store.specs.Stored.{clause_in}
use Rattle.fold_model.specs.Positions.{is_in}
use Rattle.fold_model.specs.Images.{numbers_from, all_variables}
use Rattle.clause_fold.specs.Marks.{is_marked}
use Rattle.clause_fold.specs.Images.{AreSmall}
use Rattle.clause_fold.proofs.StoredParts.{few_variables}
use Rattle.clause_fold.proofs.Named.{is_outer, outer_here, outer_next}
use Rattle.clause_fold.proofs.Placed.{placed, placed_end, inner_turn, outer_turn, typed_here, are_images, becomes}
use Rattle.clause_fold.proofs.matching.images.Goals as goal
use Rattle.clause_fold.proofs.matching.images.Goals.{then-has+in_ok-image+in_ok-push, else-has+in_ok-var+in_ok-push-2}

pub overflow_cast-number : goal.overflow_cast-number
overflow_cast-number c = let few = few_variables c.args.store.now c.args.n.now c.requires.definition in omega (arith, few, c.len-i-end.ensures, c.loop-i-test.true)

pub overflow_add-number : goal.overflow_add-number
overflow_add-number c = let few = few_variables c.args.store.now c.args.n.now c.requires.definition in omega (arith, few, c.len-i-end.ensures, c.loop-i-test.true)

pub image-requires-clause-of : goal.image-requires-clause-of
image-requires-clause-of c = is_of_kept c.args.scratch.now c.loop-i.scratch c.loop-i.invariant.keeps c.args.s.now c.requires.of

pub image-requires-clause-small : goal.image-requires-clause-small
image-requires-clause-small c = subst AreSmall (sym (same_images c.args.scratch.now c.loop-i.scratch c.loop-i.invariant.keeps c.args.s.now c.requires.of)) c.requires.small

pub bounds-with-named : goal.bounds-with-named
bounds-with-named c =
    let n = clause_in c.args.store.now c.args.n.now in
    let i = c.loop-i.i in
    let e : i + 1 ≡ suc i = omega arith in
    let is : is_in (variables_in n.body) (suc i) ≡ false = sym (c.in_ok-body.ensures.each (suc i)) ∙ sym (c.if-has.ensures ∙ ap (is_marked c.in_ok-body.body) e) in
    let more = outer_here n c.args.n.now.sorts i (omega (arith, c.len-i-end.ensures, c.loop-i-test.true)) is in
    omega (arith, more, c.loop-i.invariant.left)

pub bounds-with-named-else-has : goal.bounds-with-named-else-has
bounds-with-named-else-has c =
    let n = clause_in c.args.store.now c.args.n.now in
    let i = c.loop-i.i in
    let e : i + 1 ≡ suc i = omega arith in
    let is : is_in (variables_in n.body) (suc i) ≡ false = sym (c.in_ok-body.ensures.each (suc i)) ∙ sym (c.if-has.ensures ∙ ap (is_marked c.in_ok-body.body) e) in
    let more = outer_here n c.args.n.now.sorts i (omega (arith, c.len-i-end.ensures, c.loop-i-test.true)) is in
    omega (arith, more, c.loop-i.invariant.left)

pub loop-i-preserved : goal.loop-i-preserved
loop-i-preserved c =
    let first = c.args.scratch.now in
    let old = c.loop-i.scratch in
    let new = c.if-has.scratch in
    let n = clause_in c.args.store.now c.args.n.now in
    let d = clause_in c.args.store.now c.args.c.now in
    let f = images c.args.scratch.now c.args.s.now in
    let sorts = c.args.n.now.sorts in
    let with = c.args.with.now in
    let i = c.loop-i.i in
    let j = c.loop-i.named in
    let k = c.if-has.named in
    let e : i + 1 ≡ suc i = omega arith in
    let here : i < length sorts = omega (arith, c.len-i-end.ensures, c.loop-i-test.true) in
    let l = c.loop-i.invariant in
    let K : List (Tree Variable) → Type 0 = λ st. Keeps old st in
    elim c.if-has.branch [
      | then-has+in_ok-image+in_ok-push w ↦
          let is : is_in (variables_in n.body) (suc i) ≡ true = sym (c.in_ok-body.ensures.each (suc i)) ∙ sym (w.if-has.ensures ∙ ap (is_marked c.in_ok-body.body) e) in
          let t = w.in_ok-image.field-0 in
          let H : List (Tree Variable) → Type 0 = λ st. HasTree st t (f (typed_variable sorts (suc i))) in
          let V : Variable → Type 0 = λ v. HasTree w.image.new.scratch t (f v) in
          let F : (Variable → Tree Variable) → Type 0 = λ g. HasTree w.image.new.scratch t (g (record { number = i + 1; sort = w.sort_in-sort.result })) in
          let same = same_images first old l.keeps c.args.s.now c.requires.of in
          let variable = typed_here sorts w.as_slice.result.now (i + 1) (suc i) w.sort_in-sort.result w.as_slice.ensures w.sort_in-sort.ensures.value e in
          let r = inner_turn first old new f n d c.loop-i.terms c.if-has.terms with i j k t here l.keeps l.inside l.made l.left (subst K (sym w.scratch-is) w.image.ensures.keeps) (w.terms-is ∙ w.in_ok-push.ensures.ok) is w.named-is
          (subst H (sym w.scratch-is) (subst V variable (subst F same w.in_ok-image.ensures.made))) in
          record { keeps = r.keeps; inside = r.inside; made = r.made; left = r.left }
      | else-has+in_ok-var+in_ok-push-2 w ↦
          let is : is_in (variables_in n.body) (suc i) ≡ false = sym (c.in_ok-body.ensures.each (suc i)) ∙ sym (w.if-has.ensures ∙ ap (is_marked c.in_ok-body.body) e) in
          let t = w.in_ok-var.field-0 in
          let v = get_or with j 0 in
          let H : List (Tree Variable) → Type 0 = λ st. HasTree st t (Var (typed_variable d.sorts v)) in
          let V : Variable → Type 0 = λ x. HasTree w.var.new.self t (Var x) in
          let variable = typed_here d.sorts w.as_slice-else-has.result.now v v w.sort_in-sort-else-has.result w.as_slice-else-has.ensures w.sort_in-sort-else-has.ensures.value refl in
          let more = outer_here n sorts i here is in
          let r = outer_turn first old new f n d c.loop-i.terms c.if-has.terms with i j k t here l.keeps l.inside l.made l.left (subst K (sym w.scratch-is) w.var.ensures.keeps) (w.terms-is ∙ w.in_ok-push-2.ensures.ok) is w.named-is
          (omega (arith, more, l.left)) 0 (subst H (sym w.scratch-is) (subst V variable w.in_ok-var.ensures.made)) in
          record { keeps = r.keeps; inside = r.inside; made = r.made; left = r.left }
    ]

pub returns-clause-are : goal.returns-clause-are
returns-clause-are c =
    let store = c.args.store.now in
    let n = clause_in store c.args.n.now in
    let d = clause_in store c.args.c.now in
    let f = images c.args.scratch.now c.args.s.now in
    let made = placed_end f n d (trees_at c.loop-i.scratch c.loop-i.terms) (placed f n d (all_variables n) c.args.with.now) (drop c.loop-i.named c.args.with.now) c.loop-i.i (omega (arith, c.len-i-end.ensures, c.loop-i-test.false)) c.loop-i.invariant.made in
    are_images store c.args.scratch.now c.loop-i.scratch c.args.n.now c.args.c.now c.requires.definition c.requires.clause c.args.s.now c.requires.matched.0 c.args.with.now c.loop-i.terms
    c.requires.matched.1 c.requires.named c.loop-i.invariant.inside made

pub returns-clause-trees : goal.returns-clause-trees
returns-clause-trees c = λ at m.
    let store = c.args.store.now in
    let n = clause_in store c.args.n.now in
    let d = clause_in store c.args.c.now in
    let f = images c.args.scratch.now c.args.s.now in
    let made = placed_end f n d (trees_at c.loop-i.scratch c.loop-i.terms) (placed f n d (all_variables n) c.args.with.now) (drop c.loop-i.named c.args.with.now) c.loop-i.i (omega (arith, c.len-i-end.ensures, c.loop-i-test.false)) c.loop-i.invariant.made in
    becomes store c.args.scratch.now c.loop-i.scratch c.args.n.now c.args.c.now c.requires.definition c.requires.clause c.args.s.now at c.args.with.now c.loop-i.terms m c.requires.named c.loop-i.invariant.inside made

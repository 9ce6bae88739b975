use Rattle.std.proofs.Common.{◌+◌, arith, subst, sym, Some, None}
use Rattle.clp_model.specs.declared.tree.Variable.{Variable}
use Rattle.clp_model.specs.declared.tree.Tree.{Tree}
use Rattle.clp_model.specs.Trees.{total_size, greatest_depth}
use Rattle.term_store.specs.Trees.{tree_at, trees_at}
use Rattle.unify_model.specs.Substituting.{substituted, substituted_all}
use Rattle.substitution.specs.Images.{images_of}
use Rattle.substitution.specs.Weights.{Weighs}
use Rattle.substitution.proofs.Weighed.{sub_app, one_more, over_all, note_more, upto}
use Rattle.substitution.proofs.weighing.+weigh.Goals as goal

pub weigh-returns-in_ok-insert-in-App-clause-weight : goal.weigh-returns-in_ok-insert-in-App-clause-weight
weigh-returns-in_ok-insert-in-App-clause-weight t c =
    let f = images_of c.args.store.now c.args.images.now in
    let P : Tree Variable → Type 0 = Weighs c.above-weight.result in
    subst P (sym (sub_app f (tree_at c.args.store.now c.args.t) c.in-App.field-0.now (trees_at c.args.store.now c.in-App.args.now) c.in-App.ensures.shows.0))
    (c.above-weight.ensures c.in-App.field-0.now (substituted_all f (trees_at c.args.store.now c.in-App.args.now)) c.in_ok-weigh_all-in-App.ensures.weight)

pub weigh-returns-in_ok-insert-in-App-clause-noted : goal.weigh-returns-in_ok-insert-in-App-clause-noted
weigh-returns-in_ok-insert-in-App-clause-noted t c =
    note_more c.args.store.now (images_of c.args.store.now c.args.images.now) c.weigh_all.new.noted c.insert.new.self c.args.t c.above-weight.result
    c.in_ok-insert-in-App.ensures.updates c.in_ok-weigh_all-in-App.ensures.noted (weigh-returns-in_ok-insert-in-App-clause-weight t c)

pub weigh_all-returns-in_default-clause-weight : goal.weigh_all-returns-in_default-clause-weight
weigh_all-returns-in_default-clause-weight t c =
    let f = images_of c.args.store.now c.args.images.now in
    over_all f c.args.store.now c.args.terms.now (c.loop-term.term-index + 1)
    (one_more f c.args.store.now c.args.terms.now None c.loop-term.term-index c.term-item.result (omega arith) c.term-item.is
    (c.in_default.ensures (total_size (upto f c.args.store.now c.args.terms.now c.loop-term.term-index)) (greatest_depth (upto f c.args.store.now c.args.terms.now c.loop-term.term-index)) (substituted f (tree_at c.args.store.now c.term-item.result)) c.loop-term.invariant.all c.in_ok-one.ensures.weight))

pub weigh_all-loop-term-preserved : goal.weigh_all-loop-term-preserved
weigh_all-loop-term-preserved t c =
    let f = images_of c.args.store.now c.args.images.now in
    record {
      all = one_more f c.args.store.now c.args.terms.now (Some c.in-Some.more) c.loop-term.term-index c.term-item.result (omega arith) c.term-item.is
          (c.in-Some.ensures (total_size (upto f c.args.store.now c.args.terms.now c.loop-term.term-index)) (greatest_depth (upto f c.args.store.now c.args.terms.now c.loop-term.term-index)) (substituted f (tree_at c.args.store.now c.term-item.result)) c.loop-term.invariant.all c.in_ok-one.ensures.weight);
      noted = c.in_ok-one.ensures.noted;
    }

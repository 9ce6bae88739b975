use Rattle.std.proofs.Common.{sym, subst}
use Rattle.clp_model.specs.declared.tree.Variable.{Variable}
use Rattle.clp_model.specs.declared.tree.Tree.{Tree}
use Rattle.substitution.specs.declared.images.Kind.TheVariants as kind
use Rattle.substitution.specs.Bindings.{bound, bound_variables}
use Rattle.substitution.specs.Images.{images_by}
use Rattle.substitution.specs.Weights.{Weighs}
use Rattle.substitution.proofs.Weighed.{one_more_weight, more_count}
use Rattle.substitution.proofs.Carried.{image_at}
use Rattle.substitution.proofs.subst.Subst.in_turn.Goals as goal

pub loop-place-preserved : goal.loop-place-preserved
loop-place-preserved c =
    let bs = bound c.args.store.now c.args.bindings in
    let f = images_by kind.InTurn bs in
    let vs = bound_variables c.args.bindings in
    let w = c.in_ok-weight.weight in
    let P : Tree Variable → Type 0 = Weighs w in
    record {
      count = more_count f vs c.loop-place.weights.items c.push.new.self.items w c.loop-place.place c.in_ok-push.ensures.items c.loop-place.invariant.count;
      weights = one_more_weight f vs c.loop-place.weights.items c.push.new.self.items w c.loop-place.place c.in_ok-push.ensures.items c.loop-place.invariant.count c.loop-place.invariant.weights
          (λ v e. subst P (sym (image_at c.args.store.now c.args.bindings c.loop-place.place c.at-term.result c.at-term.ensures kind.InTurn c.requires.order v e)) (c.in_ok-weight.ensures.weight));
      noted = c.in_ok-weight.ensures.noted;
    }

use Rattle.std.proofs.Common.{◌∙◌, ap, get_or, pos, to_z, of_z, arith}
use mir.Syntax.{w64, w128}
use Rattle.farkas_check.proofs.Sums.{same_64, weight_at, weight_same, turn, turn_bound, constant_at}
use Rattle.farkas_check.proofs.sum.weighted_constant.Goals as goal

pub add_product-sum-requires-clause-multiplier_small : goal.add_product-sum-requires-clause-multiplier_small
add_product-sum-requires-clause-multiplier_small c = weight_at c.args.multipliers.now c.loop-i.i c.requires.within (omega arith)

pub loop-i-preserved : goal.loop-i-preserved
loop-i-preserved c =
    let s = to_z w128 c.loop-i.sum-bits in
    let sum = c.add_product-sum.result in
    let r = c.index-rows-i.result in
    let m = get_or c.args.multipliers.now c.loop-i.i (pos 0) in
    let k = c.loop-i.invariant in
    let x = c.constant.result in
    let ex = same_64 x c.constant.ensures.small ∙ (c.constant.ensures.value ∙ ap (λ row. row.constant) c.index-rows-i.is) in
    record {
      so_far = turn s sum c.loop-i.i _ c.requires.few c.loop-i-test.true k.bound c.add_product-sum.ensures.bound (to_z w64 (of_z w64 m)) m (to_z w64 (of_z w64 x)) ((get_or c.args.rows.now c.loop-i.i r).constant) _ _ _
          (weight_same c.args.multipliers.now c.loop-i.i c.requires.within (omega arith)) ex (constant_at c.args.rows.now c.args.multipliers.now c.loop-i.i r c.loop-i-test.true c.requires.lengths) c.add_product-sum.ensures.value k.so_far;
      bound = turn_bound s sum c.loop-i.i _ c.requires.few c.loop-i-test.true k.bound c.add_product-sum.ensures.bound;
    }

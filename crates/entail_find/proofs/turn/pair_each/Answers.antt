use Rattle.std.proofs.Common.{◌≡◌, ◌+◌, drop, false, sym, subst}
use Rattle.std.proofs.lemmas.List.{drop_all}
use Rattle.std.proofs.lemmas.Result.{err_from_is_err_and}
use Rattle.linear_model.specs.Chain.{all_within}
use Rattle.entail_find.specs.Kept.{Adds}
use Rattle.entail_find.specs.Turning.{with_each, by_bounds}
use Rattle.entail_find.proofs.Adding.{adds_both, adds_none, outside_front, outside_back}
use Rattle.entail_find.proofs.Finding.{from_here}
use Rattle.entail_find.proofs.turn.pair_each.Goals as goal

pub loop-lower-preserved : goal.loop-lower-preserved
loop-lower-preserved g c =
    let x = c.args.variable in
    let ls = c.args.lowers.now in
    let us = c.args.uppers.now in
    let k = c.loop-lower.lower-index in
    let l = c.lower-item.result in
    let e = from_here ls k l c.loop-lower-test.true c.lower-item.is in
    let v = c.loop-lower.invariant in
    record {
      so_far = λ after h.
          v.so_far after
          (subst (λ xs. Adds c.loop-lower.into (by_bounds x xs us) after) (sym e)
          (adds_both c.loop-lower.into (with_each x l us) c.pair_with_each.new.into (by_bounds x (drop (k + 1) ls) us) after c.in_ok-pair_with_each.ensures.value h));
      outside = λ h. v.outside (subst (λ xs. all_within (by_bounds x xs us) ≡ false) (sym e) (outside_back (with_each x l us) (by_bounds x (drop (k + 1) ls) us) h));
    }

pub returns-clause-value : goal.returns-clause-value
returns-clause-value g c =
    let k = c.loop-lower.lower-index in
    c.loop-lower.invariant.so_far c.loop-lower.into
    (subst (λ xs. Adds c.loop-lower.into (by_bounds c.args.variable xs c.args.uppers.now) c.loop-lower.into) (sym (drop_all k c.args.lowers.now c.loop-lower-test.false)) (adds_none c.loop-lower.into))

pub returns-in_err-pair_with_each-clause-overflow : goal.returns-in_err-pair_with_each-clause-overflow
returns-in_err-pair_with_each-clause-overflow g c = λ h.
    let p = err_from_is_err_and c.from_residual.result c.from_residual.ensures.1 in
    let made = p.1 in
    let same = p.2 in
    let x = c.args.variable in
    let us = c.args.uppers.now in
    let k = c.loop-lower.lower-index in
    let l = c.lower-item.result in
    let e = from_here c.args.lowers.now k l c.loop-lower-test.true c.lower-item.is in
    c.loop-lower.invariant.outside
    (subst (λ xs. all_within (by_bounds x xs us) ≡ false) (sym e) (outside_front (with_each x l us) (by_bounds x (drop (k + 1) c.args.lowers.now) us) (c.in_err-pair_with_each.ensures.overflow cc)))

use Rattle.std.proofs.Common.{not, pos, arith}
use Rattle.std.specs.Prelude.{int_lt}
use Rattle.std.specs.Vec.Iter.{into_iter_items}
use Rattle.linear_model.specs.Forms.{coefficient}
use Rattle.linear_model.specs.Elimination.{has}
use Rattle.entail_find.specs.Turning.{others_of}
use Rattle.entail_find.proofs.Adding.{filtered_next, filtered_end, filtered_more, none_left}
use Rattle.entail_find.proofs.turn.sort_each.Goals as goal

pub loop-item-preserved : goal.loop-item-preserved
loop-item-preserved c =
    let x = c.args.variable in
    let e = c.in-Some.ensures.cases.0 in
    let v = c.loop-item.invariant in
    let i = c.in-Some.item in
    let rest = into_iter_items c.loop-item.rest in
    let new = into_iter_items c.next.new.self in
    record {
      so_far = filtered_next (λ i. not (has x i.row)) c.args.into.now c.loop-item.into (others_of x c.args.items.items) rest v.so_far i new c.sort.new.into e c.in_ok-sort.ensures.value;
      lowers = filtered_more (λ i. int_lt (coefficient i.row.pairs x) (pos 0)) i new rest c.sort.new.bounds.lowers.items c.loop-item.bounds.lowers.items _ e c.in_ok-sort.ensures.lowers v.lowers;
      uppers = filtered_more (λ i. int_lt (pos 0) (coefficient i.row.pairs x)) i new rest c.sort.new.bounds.uppers.items c.loop-item.bounds.uppers.items _ e c.in_ok-sort.ensures.uppers v.uppers;
    }

pub returns-clause-value : goal.returns-clause-value
returns-clause-value c =
    let x = c.args.variable in
    let rest = into_iter_items c.loop-item.rest in
    let z = c.in_default.ensures.cases.0 in
    let ok = c.loop-item.rest.rest.ok.0 in
    filtered_end (λ i. not (has x i.row)) c.args.into.now c.loop-item.into (others_of x c.args.items.items) rest c.loop-item.invariant.so_far (none_left rest (omega arith))

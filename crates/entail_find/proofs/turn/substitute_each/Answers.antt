use Rattle.std.proofs.Common.{◌≡◌, arith, length}
use Rattle.std.proofs.lemmas.List.Elements.{All-rest}
use Rattle.std.specs.Vec.Iter.{into_iter_items}
use Rattle.linear_model.specs.Elimination.{substituted}
use Rattle.linear_model.specs.Items.{Item, item_row, joined}
use Rattle.entail_find.specs.Turning.{by_equation}
use Rattle.entail_find.proofs.Adding.{mapped_next, mapped_end, mapped_outside_rest, none_left}
use Rattle.entail_find.proofs.turn.substitute_each.Goals as goal

pub loop-item-preserved : goal.loop-item-preserved
loop-item-preserved g c =
    let f = substituted item_row joined c.args.variable c.args.equation.now in
    let e = c.in-Some.ensures.cases.0 in
    let v = c.loop-item.invariant in
    let rest = into_iter_items c.loop-item.rest in
    let all = by_equation c.args.variable c.args.equation.now c.args.items.items in
    record {
      counts = All-rest (λ (i : Item). length i.m ≡ g.count) c.in-Some.item (into_iter_items c.next.new.self) rest e v.counts;
      so_far = mapped_next f c.args.into.now c.loop-item.into all rest v.so_far c.in-Some.item (into_iter_items c.next.new.self) c.substitute.new.into e c.in_ok-substitute.ensures.value;
      outside = mapped_outside_rest f all rest v.outside c.in-Some.item (into_iter_items c.next.new.self) e;
    }

pub returns-clause-value : goal.returns-clause-value
returns-clause-value g c =
    let rest = into_iter_items c.loop-item.rest in
    let z = c.in_default.ensures.cases.0 in
    let ok = c.loop-item.rest.rest.ok.0 in
    mapped_end (substituted item_row joined c.args.variable c.args.equation.now) c.args.into.now c.loop-item.into (by_equation c.args.variable c.args.equation.now c.args.items.items) rest c.loop-item.invariant.so_far (none_left rest (omega arith))

use Rattle.std.proofs.Common.{◌+◌, drop}
use Rattle.std.proofs.lemmas.List.{drop_all}
use Rattle.linear_model.specs.Elimination.{bounded}
use Rattle.linear_model.specs.Items.{item_row, joined}
use Rattle.entail_find.specs.Turning.{with_each}
use Rattle.entail_find.proofs.Adding.{mapped_next, mapped_end, mapped_outside_rest}
use Rattle.entail_find.proofs.Finding.{from_here}
use Rattle.entail_find.proofs.turn.pair_with_each.Goals as goal

pub loop-upper-preserved : goal.loop-upper-preserved
loop-upper-preserved g c =
    let f = bounded item_row joined c.args.variable c.args.lower.now in
    let us = c.args.uppers.now in
    let k = c.loop-upper.upper-index in
    let e = from_here us k c.upper-item.result c.loop-upper-test.true c.upper-item.is in
    let v = c.loop-upper.invariant in
    let all = with_each c.args.variable c.args.lower.now us in
    record {
      so_far = mapped_next f c.args.into.now c.loop-upper.into all (drop k us) v.so_far c.upper-item.result (drop (k + 1) us) c.pair.new.into e c.in_ok-pair.ensures.value;
      outside = mapped_outside_rest f all (drop k us) v.outside c.upper-item.result (drop (k + 1) us) e;
    }

pub returns-clause-value : goal.returns-clause-value
returns-clause-value g c =
    mapped_end (bounded item_row joined c.args.variable c.args.lower.now) c.args.into.now c.loop-upper.into (with_each c.args.variable c.args.lower.now c.args.uppers.now) (drop c.loop-upper.upper-index c.args.uppers.now)
    c.loop-upper.invariant.so_far (drop_all c.loop-upper.upper-index c.args.uppers.now c.loop-upper-test.false)

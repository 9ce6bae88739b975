use Rattle.std.proofs.Common.{arith}
use Rattle.linear_model.specs.Normal.{divisor_of}
use Rattle.lin_row.proofs.Nonzero.{one_more, within_more, past, too_long}
use Rattle.lin_row.proofs.reduce.divided_all.Goals as goal

pub returns-in-Err-clause-overflow : goal.returns-in-Err-clause-overflow
returns-in-Err-clause-overflow g c e =
    let s = c.in-Some.sum in
    let rest = g.S.Source.rest c.args.source.now in
    past (divisor_of c.args.is_flipped c.args.divisor) s.pair.0 s.pair.1 (rest c.loop-sum.i c.loop-sum.j) (rest s.i s.j) c.push_divided.new.into.items c.loop-sum.quotients.items _ c.in-Some.ensures.some
    (c.in-Err.ensures.overflow (cc)) c.loop-sum.invariant.so_far

pub loop-sum-preserved : goal.loop-sum-preserved
loop-sum-preserved g c =
    let s = c.in-Some.sum in
    let rest = g.S.Source.rest c.args.source.now in
    let d = divisor_of c.args.is_flipped c.args.divisor in
    let h = c.in-Ok.ensures in
    record {
      so_far = one_more d s.pair.0 s.pair.1 (rest c.loop-sum.i c.loop-sum.j) (rest s.i s.j) c.push_divided.new.into.items c.loop-sum.quotients.items _ c.in-Some.ensures.some h.value c.loop-sum.invariant.so_far;
      within = within_more d s.pair.0 s.pair.1 (rest c.loop-sum.i c.loop-sum.j) (rest s.i s.j) c.push_divided.new.into.items c.loop-sum.quotients.items c.loop-sum.quotients.items c.in-Some.ensures.some h.value h.within c.loop-sum.invariant.within;
      inline = omega arith;
    }

pub returns-in-Err-clause-long : goal.returns-in-Err-clause-long
returns-in-Err-clause-long g c e =
    let s = c.in-Some.sum in
    let rest = g.S.Source.rest c.args.source.now in
    let h = c.in-Err.ensures.full (cc) in
    too_long (divisor_of c.args.is_flipped c.args.divisor) s.pair.0 s.pair.1 (rest c.loop-sum.i c.loop-sum.j) (rest s.i s.j) c.loop-sum.quotients.items (rest 0 0) c.loop-sum.quotients.capacity
    c.in-Some.ensures.some h.1 c.loop-sum.invariant.so_far c.loop-sum.invariant.inline h.0

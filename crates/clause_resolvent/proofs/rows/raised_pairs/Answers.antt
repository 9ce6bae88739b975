use Rattle.std.proofs.Common.{arith}
use Rattle.std.proofs.Math.IntN.{pos}
use Rattle.clause_resolvent.proofs.RaisedRows.{pairs_more, pairs_end}
use Rattle.clause_resolvent.proofs.rows.raised_pairs.Goals as goal

pub loop-pair-preserved : goal.loop-pair-preserved
loop-pair-preserved c =
    pairs_more c.args.by c.args.pairs.now c.loop-pair.all.items c.push.new.self.items c.loop-pair.pair-index (0, pos 0) c.raised_pair.result (omega arith) c.loop-pair.invariant c.raised_pair.ensures c.in_ok-push.ensures.ok

pub returns : goal.returns
returns c = pairs_end c.args.by c.args.pairs.now c.loop-pair.all.items c.loop-pair.pair-index c.loop-pair-test.false c.loop-pair.invariant

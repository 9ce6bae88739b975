use Rattle.chain_items.proofs.Reading.{one_more}
use Rattle.chain_items.proofs.certificate.multipliers.Goals as goal

pub loop-place-preserved : goal.loop-place-preserved
loop-place-preserved c =
    one_more c.args.is_opposite c.args.weights.now c.args.count c.loop-place.place c.push_multiplier.new.into.items c.loop-place.all.items _ c.loop-place-test.true c.in_ok-push_multiplier.ensures c.loop-place.invariant

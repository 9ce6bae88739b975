use Rattle.std.proofs.Common.{arith}
use Rattle.term_store.proofs.Keeping.{keeps_trans}
use Rattle.map_state.proofs.Places.{made_at, made_more}
use Rattle.map_state.proofs.copying.copy_made.Goals as goal

pub loop-one-preserved : goal.loop-one-preserved
loop-one-preserved c =
    record {
      keeps = keeps_trans c.args.store.now c.loop-one.store c.copy_one.new.store c.loop-one.invariant.keeps c.copy_one.ensures.keeps;
      stored = (made_at c.args.scratch.now c.args.made.now c.loop-one.one-index c.one-item.result (omega arith) c.one-item.is c.loop-one.invariant.stored).1;
      are = made_more c.loop-one.store c.copy_one.new.store c.args.scratch.now c.args.number c.loop-one.one-index c.args.made.now c.one-item.result c.loop-one.entries.items c.push.new.self.items c.in_ok-entry.entry
          c.loop-one.invariant.are c.copy_one.ensures.keeps (omega arith) c.one-item.is c.in_ok-entry.ensures.is c.in_ok-entry.ensures.stored c.in_ok-entry.ensures.live c.in_ok-push.ensures.items;
    }

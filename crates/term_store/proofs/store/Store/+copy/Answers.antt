use Rattle.std.proofs.Common.{arith}
use Rattle.term_store.proofs.Keeping.{keeps_trans, rest_in, rest_size}
use Rattle.term_store.proofs.Copies.{copied_more}
use Rattle.term_store.proofs.store.Store.+copy.Goals as goal

pub copies-loop-arg-preserved : goal.copies-loop-arg-preserved
copies-loop-arg-preserved t c = record {
  keeps = keeps_trans c.args.self.now c.loop-arg.self c.copy.new.self c.loop-arg.invariant.keeps c.copy.ensures.keeps;
  made = copied_more c.args.from.now c.loop-arg.self c.copy.new.self c.args.args.now c.loop-arg.copies.items c.push.new.self.items c.loop-arg.arg-index c.in_ok-copy.copy c.arg-item.result
      c.loop-arg.invariant.made c.copy.ensures.keeps (omega arith) c.arg-item.is c.in_ok-copy.ensures.made c.in_ok-push.ensures.ok;
  rest = rest_in c.args.from.now c.args.args.now c.loop-arg.arg-index (omega arith) c.loop-arg.invariant.rest;
  left = omega (arith, c.loop-arg.invariant.left, rest_size c.args.from.now c.args.args.now c.loop-arg.arg-index (omega arith));
}

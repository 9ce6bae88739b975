use Rattle.std.proofs.Common.{arith, sym, ◌∙◌}
use Rattle.map_state.proofs.Defined.{kept_at, found_here, not_here}
use Rattle.map_state.proofs.state.definition_among.Goals as goal

pub pred_is-requires : goal.pred_is-requires
pred_is-requires c = (kept_at c.args.store.now c.args.definitions.now c.loop-clause.clause-index c.clause-item.result (omega arith) c.clause-item.is c.loop-clause.invariant.stored).0.parts.within.0

pub returns-then-pred_is-clause-value : goal.returns-then-pred_is-clause-value
returns-then-pred_is-clause-value c =
    let both = kept_at c.args.store.now c.args.definitions.now c.loop-clause.clause-index c.clause-item.result (omega arith) c.clause-item.is c.loop-clause.invariant.stored in
    sym (found_here c.args.store.now c.args.definitions.now c.loop-clause.clause-index c.clause-item.result c.args.p.now c.pred_is.result (omega arith) c.clause-item.is both.0 c.pred_is.ensures c.if-pred_is.true) ∙ c.loop-clause.invariant.is

pub returns-then-pred_is-clause-stored : goal.returns-then-pred_is-clause-stored
returns-then-pred_is-clause-stored c = (kept_at c.args.store.now c.args.definitions.now c.loop-clause.clause-index c.clause-item.result (omega arith) c.clause-item.is c.loop-clause.invariant.stored).0

pub loop-clause-preserved : goal.loop-clause-preserved
loop-clause-preserved c =
    let both = kept_at c.args.store.now c.args.definitions.now c.loop-clause.clause-index c.clause-item.result (omega arith) c.clause-item.is c.loop-clause.invariant.stored in
    record {
      stored = both.1;
      is = sym (not_here c.args.store.now c.args.definitions.now c.loop-clause.clause-index c.clause-item.result c.args.p.now c.pred_is.result (omega arith) c.clause-item.is both.0 c.pred_is.ensures c.if-pred_is.false) ∙ c.loop-clause.invariant.is;
    }

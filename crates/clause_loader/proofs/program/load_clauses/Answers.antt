use Rattle.std.proofs.Common.{◌+◌, arith, ◌∙◌}
use Rattle.std.proofs.lemmas.Result.{err_from_is_err_and}
use Rattle.clause_loader.specs.Loaded.{clauses_in}
use Rattle.clause_loader.specs.WellFormed.{IsWellFormed}
use Rattle.clause_loader.proofs.Items.{each_item}
use Rattle.clause_loader.proofs.Stopping.{loaded_more, stored_more, stopped}
use Rattle.clause_loader.proofs.program.load_clauses.Goals as goal

pub load_next-requires-clause-formed : goal.load_next-requires-clause-formed
load_next-requires-clause-formed c = each_item IsWellFormed c.args.source.now c.loop-one.one-index c.one-item.result c.requires.formed (omega arith) c.one-item.is

pub returns-in_err-clause-clause-refused : goal.returns-in_err-clause-clause-refused
returns-in_err-clause-clause-refused c =
    let p = err_from_is_err_and c.from_residual.result c.from_residual.ensures.1 in
    let stop = stopped c.args.source.now c.loop-one.one-index (c.loop-one.place + 1) c.loop-one.nodes (clauses_in c.loop-one.store c.loop-one.clauses.items) c.one-item.result c.in_err-clause.field-0.0
    (omega arith) c.one-item.is (omega arith) c.loop-one.invariant.rest c.in_err-clause.ensures.refused in
    rw (p.1, p.2) stop

pub loop-one-preserved : goal.loop-one-preserved
loop-one-preserved c = record {
  rest = c.loop-one.invariant.rest
      ∙ loaded_more c.loop-one.store c.load_next.new.store c.args.source.now c.loop-one.one-index c.loop-one.nodes c.in_ok-clause.sum c.loop-one.clauses.items c.push.new.self.items
      c.in_ok-clause.clause c.one-item.result (omega arith) c.one-item.is c.load_next.ensures.keeps c.loop-one.invariant.stored c.in_ok-clause.ensures.made
      c.in_ok-clause.ensures.nodes c.in_ok-clause.ensures.few c.in_ok-push.ensures.items;
  stored = stored_more c.loop-one.store c.load_next.new.store c.loop-one.clauses.items c.push.new.self.items c.in_ok-clause.clause c.load_next.ensures.keeps
      c.loop-one.invariant.stored c.in_ok-clause.ensures.stored c.in_ok-push.ensures.items;
  few = c.in_ok-clause.ensures.few;
  place = omega arith;
}

use Rattle.std.proofs.Common.{◌≡◌, ◌≤◌, []}
use Rattle.clause_loader.specs.Loaded.{clauses_in, AreStored}
use Rattle.clause_loader.proofs.Stopping.{loaded_from}
use Rattle.clause_loader.proofs.program.load_clauses.Given as goal

abbrev pub invariant-loop-one : goal.invariant-loop-one
invariant-loop-one l = record {
  rest : loaded_from l.source 0 [] 0 ≡ loaded_from l.source l.one-index (clauses_in l.store l.clauses.items) l.nodes;
  stored : AreStored l.store l.clauses.items;
  few : l.nodes ≤ 8388608;
  place : l.place ≡ l.one-index;
}

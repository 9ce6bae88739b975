use Rattle.std.proofs.Common.{◌≡◌, ◌+◌, ◌*◌, ◌≤◌, drop}
use Rattle.clause_model.specs.Load.{sizes_of}
use Rattle.clause_loader.specs.Loaded.{clauses_in, AreStored}
use Rattle.map_state.proofs.totals.total_size.Given as goal

abbrev pub invariant-loop-clause : goal.invariant-loop-clause
invariant-loop-clause l = record {
  stored : AreStored l.store (drop l.clause-index l.clauses);
  is : l.total + sizes_of (clauses_in l.store (drop l.clause-index l.clauses)) ≡ sizes_of (clauses_in l.store l.clauses);
  few : l.total ≤ 4096 * l.clause-index;
}

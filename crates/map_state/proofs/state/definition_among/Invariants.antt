use Rattle.std.proofs.Common.{◌≡◌, drop}
use Rattle.map_model.specs.State.{definition_among}
use Rattle.map_state.specs.Seen.{definitions_in, AllKept}
use Rattle.map_state.proofs.state.definition_among.Given as goal

abbrev pub invariant-loop-clause : goal.invariant-loop-clause
invariant-loop-clause l = record {
  stored : AllKept l.store (drop l.clause-index l.definitions);
  is : definition_among (definitions_in l.store (drop l.clause-index l.definitions)) l.p ≡ definition_among (definitions_in l.store l.definitions) l.p;
}

use Rattle.std.proofs.Common.{◌≡◌, ℕ, ◌-◌, ◌≤◌, Ok, take}
use Rattle.clause_store.specs.Stored.{clause_in}
use Rattle.map_model.specs.Rewriting.{new_entries}
use Rattle.map_model.specs.Unfolding.{resolvents_from}
use Rattle.map_state.specs.Seen.{state_of}
use Rattle.map_state.specs.Changes.{AllMade, made_entries}
use Rattle.rules_unfold.proofs.resolving.resolvents.Given as goal

abbrev pub invariant-loop-by : goal.invariant-loop-by
invariant-loop-by l = record {
  all : AllMade l.scratch l.made;
  value : (n : ℕ) → new_entries n (resolvents_from l.id (clause_in l.state.store l.c) l.place 1 (take (l.by - 1) (state_of l.state).entries)) ≡ Ok (made_entries n l.scratch l.made);
  first : 1 ≤ l.by;
}

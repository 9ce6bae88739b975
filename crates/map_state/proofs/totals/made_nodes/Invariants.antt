use Rattle.std.proofs.Common.{◌≡◌, ◌+◌, ◌*◌, ◌≤◌, drop}
use Rattle.map_state.specs.Changes.{AllMade}
use Rattle.map_state.specs.Rows.{nodes_of_made}
use Rattle.map_state.proofs.totals.made_nodes.Given as goal

abbrev pub invariant-loop-one : goal.invariant-loop-one
invariant-loop-one l = record {
  stored : AllMade l.store (drop l.one-index l.made);
  is : l.total + nodes_of_made l.store (drop l.one-index l.made) ≡ nodes_of_made l.store l.made;
  few : l.total ≤ 4096 * l.one-index;
}

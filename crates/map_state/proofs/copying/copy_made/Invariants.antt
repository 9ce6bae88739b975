use Rattle.std.proofs.Common.{drop, take}
use Rattle.term_store.specs.Trees.{Keeps}
use Rattle.map_state.specs.Changes.{AllMade}
use Rattle.map_state.specs.Rows.{AreMade}
use Rattle.map_state.proofs.copying.copy_made.Given as goal

abbrev pub invariant-loop-one : goal.invariant-loop-one
invariant-loop-one l = record {
  keeps : Keeps l.fn.store l.store;
  stored : AllMade l.scratch (drop l.one-index l.made);
  are : AreMade l.store l.number l.scratch (take l.one-index l.made) l.entries.items;
}

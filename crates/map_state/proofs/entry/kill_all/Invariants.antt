use Rattle.std.proofs.Common.{◌≡◌, drop, vec_len}
use Rattle.std.specs.Prelude.{vec_capacity}
use Rattle.map_state.specs.Rows.{rows_killed, AllIds}
use Rattle.map_state.proofs.entry.kill_all.Given as goal

abbrev pub invariant-loop-id : goal.invariant-loop-id
invariant-loop-id l = record {
  ids : AllIds (vec_len l.entries) (drop l.id-index l.dead);
  items : rows_killed l.entries.items (drop l.id-index l.dead) ≡ rows_killed l.fn.entries.items l.dead;
  len : vec_len l.entries ≡ vec_len l.fn.entries;
  capacity : vec_capacity l.entries ≡ vec_capacity l.fn.entries;
}

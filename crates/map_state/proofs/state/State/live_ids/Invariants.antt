use Rattle.std.proofs.Common.{◌≡◌, ◌+◌, ◌++◌, drop}
use Rattle.map_model.specs.State.{ids_where, is_live}
use Rattle.map_state.specs.Seen.{entries_in}
use Rattle.map_state.proofs.state.State.live_ids.Given as goal

abbrev pub invariant-loop-place : goal.invariant-loop-place
invariant-loop-place l = l.ids.items ++ ids_where is_live (l.place + 1) (entries_in l.self.store (drop l.place l.self.entries)) ≡ ids_where is_live 1 (entries_in l.self.store l.self.entries)

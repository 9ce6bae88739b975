use Rattle.std.proofs.Common.{◌≡◌, ◌++◌, ◌-◌}
use Rattle.std.specs.Prelude.{string_bytes}
use Rattle.map_state.specs.Seen.{state_of}
use Rattle.replay_model.specs.Replay.{output}
use Rattle.map_replay.proofs.Printing.{text_from}
use Rattle.map_replay.proofs.output.print_program.Given as goal

abbrev pub invariant-loop-id : goal.invariant-loop-id
invariant-loop-id l = string_bytes l.text ++ text_from (state_of l.state).entries (l.id - 1) ≡ output (state_of l.state)

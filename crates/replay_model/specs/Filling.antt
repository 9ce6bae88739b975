-- What is written of a script whose certificates are written out.
use Rattle.std.specs.Prelude.{◌≡◌, ℕ, List, Ok}
use Rattle.map_model.specs.State.{State}
use Rattle.script_grammar.specs.Script.{script}
use Rattle.replay_model.specs.Replay.{opened, scripted, replayed}

-- The bytes that are written read as just the steps of the history, each with its certificate, and their replay on the
-- same program ends in the same state.
pub record FillsScript (program_bytes script_bytes written : List ℕ) : Type 0 where
  pub start : State
  pub opens : opened program_bytes ≡ Ok start
  pub end : State
  pub ends : scripted start script_bytes ≡ Ok end
  pub reads : script written ≡ Ok end.steps
  pub replays : replayed program_bytes written ≡ Ok end

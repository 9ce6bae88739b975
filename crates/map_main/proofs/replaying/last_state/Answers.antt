use Rattle.std.proofs.Common.{sym, subst}
use Rattle.map_main.specs.Endings.{Stops}
use Rattle.command_model.specs.Plan.{after_program}
use Rattle.map_main.proofs.Stopping.{stops_later}
use Rattle.map_main.proofs.replaying.last_state.Goals as goal

pub returns-in-Err-clause-stops : goal.returns-in-Err-clause-stops
returns-in-Err-clause-stops g c = λ text_of. c.in-Err.ensures.stops text_of c.args.files.script.now

pub returns-in-Err-run_file-clause-stops : goal.returns-in-Err-run_file-clause-stops
returns-in-Err-run_file-clause-stops g c = λ text_of.
    stops_later text_of _ c.args.files.program.now c.args.files.script.now _ c.in-Ok.ensures.opens _ _ _ _ _ c.in-Ok.ensures.quiet
    (rw c.in-Ok.ensures.keeps at (c.in-Err-run_file.ensures.stops text_of))

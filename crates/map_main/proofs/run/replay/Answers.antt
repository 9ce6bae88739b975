use Rattle.replay_model.specs.Replay.{output}
use Rattle.command_model.specs.declared.status.Status.TheVariants as status
use Rattle.map_main.specs.Endings.Ends.{answers}
use Rattle.map_main.proofs.run.replay.Goals as goal

pub returns-in-Ok-clause-ends : goal.returns-in-Ok-clause-ends
returns-in-Ok-clause-ends g c = answers status.Ok _ (c.in-Ok.ensures.reached output) c.in-Ok.ensures.quiet _ c.write_program.ensures

pub returns-in-Err-clause-ends : goal.returns-in-Err-clause-ends
returns-in-Err-clause-ends g c = c.write_stop.ensures _ _ _ _ _ (c.in-Err.ensures.stops output)

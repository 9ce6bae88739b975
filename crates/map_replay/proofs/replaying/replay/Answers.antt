use Rattle.std.proofs.Common.{ap, ◌∙◌}
use Rattle.replay_model.specs.Replay.{then_scripted}
use Rattle.replay_laws.proofs.Headline.{keeps_provability}
use Rattle.map_replay.proofs.replaying.replay.Goals as goal

pub returns-clause-headline : goal.returns-clause-headline
returns-clause-headline c =
    keeps_provability _ _ _ c.requires.program c.requires.script (ap (then_scripted c.args.script.now) c.in_ok-state.ensures.opens ∙ c.in_ok-run_script.ensures.runs)

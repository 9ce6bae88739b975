use Rattle.replay_laws.proofs.Headline.{keeps_provability}
use Rattle.replay_laws.proofs.replay_keeps_provability.Goals as goal

pub returns : goal.returns
returns c = keeps_provability

use Rattle.fill_text_laws.proofs.Filling.{replayed_script, fills_script}
use Rattle.fill_text_laws.proofs.replay_is_filled.Goals as goal

pub returns-clause-script : goal.returns-clause-script
returns-clause-script c = replayed_script

pub returns-clause-fills : goal.returns-clause-fills
returns-clause-fills c = fills_script

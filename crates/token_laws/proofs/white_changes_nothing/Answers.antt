use Rattle.token_laws.proofs.Skipping.{white}
use Rattle.token_laws.proofs.white_changes_nothing.Goals as goal

pub returns : goal.returns
returns c = white

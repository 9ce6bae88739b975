use Rattle.token_laws.proofs.Skipping.{line}
use Rattle.token_laws.proofs.line_changes_nothing.Goals as goal

pub returns : goal.returns
returns c = line

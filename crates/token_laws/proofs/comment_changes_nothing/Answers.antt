use Rattle.token_laws.proofs.Skipping.{comment}
use Rattle.token_laws.proofs.comment_changes_nothing.Goals as goal

pub returns : goal.returns
returns c = comment

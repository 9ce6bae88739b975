use Rattle.space_laws.proofs.Places.{space_keeps_tokens, space_between_changes_nothing as between}
use Rattle.space_laws.proofs.space_between_changes_nothing.Goals as goal

pub returns-clause-tokens : goal.returns-clause-tokens
returns-clause-tokens c = space_keeps_tokens

pub returns-clause-programs : goal.returns-clause-programs
returns-clause-programs c = between

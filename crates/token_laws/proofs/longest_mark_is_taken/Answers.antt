use Rattle.token_laws.proofs.Longest.{longest}
use Rattle.token_laws.proofs.longest_mark_is_taken.Goals as goal

pub returns : goal.returns
returns c = longest

use Rattle.draft_laws.proofs.Clauses.{comparisons_formed as law}
use Rattle.draft_laws.proofs.comparisons_are_formed.Goals as goal

pub returns : goal.returns
returns c = law

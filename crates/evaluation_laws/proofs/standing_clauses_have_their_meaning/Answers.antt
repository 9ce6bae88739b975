use Rattle.evaluation_laws.proofs.Clauses.{clause_meant}
use Rattle.evaluation_laws.proofs.standing_clauses_have_their_meaning.Goals as goal

pub returns : goal.returns
returns c = clause_meant

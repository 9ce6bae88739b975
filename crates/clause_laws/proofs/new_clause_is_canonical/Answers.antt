use Rattle.clause_laws.proofs.NewClause.{new_clause_is_canonical, canonical_is_new}
use Rattle.clause_laws.proofs.new_clause_is_canonical.Goals as goal

pub returns-clause-made : goal.returns-clause-made
returns-clause-made c = new_clause_is_canonical

pub returns-clause-stays : goal.returns-clause-stays
returns-clause-stays c = canonical_is_new

use Rattle.clp_model.proofs.CanonicalForms.{new_clause_is_canonical}
use Rattle.clp_meaning.proofs.new_clause_is_canonical.Goals as goal

pub returns : goal.returns
returns c = new_clause_is_canonical

use Rattle.clp_model.proofs.CanonicalForms.{canonical_is_new}
use Rattle.clp_meaning.proofs.canonical_clause_stays.Goals as goal

pub returns : goal.returns
returns c = canonical_is_new

use Rattle.clause_laws.proofs.Variants.{variants_exactly}
use Rattle.clause_laws.proofs.variants_have_one_canonical_form.Goals as goal

pub returns : goal.returns
returns c = variants_exactly

use Rattle.clp_meaning.proofs.Renaming.{canonical_form_keeps_instances}
use Rattle.clp_meaning.proofs.canonical_form_keeps_instances.Goals as goal

pub returns : goal.returns
returns c = canonical_form_keeps_instances

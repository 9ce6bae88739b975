use Rattle.clp_meaning.proofs.Instances.{loaded_clause_keeps_instances}
use Rattle.clp_meaning.proofs.loaded_clause_keeps_instances.Goals as goal

pub returns : goal.returns
returns c = loaded_clause_keeps_instances

use Rattle.clp_meaning.proofs.Instances.{same_instances_keep_provability}
use Rattle.clp_meaning.proofs.same_instances_keep_provability.Goals as goal

pub returns : goal.returns
returns c = same_instances_keep_provability

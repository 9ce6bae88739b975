use Rattle.clp_meaning.proofs.Merging.{merge_keeps_provability}
use Rattle.clp_meaning.proofs.merge_keeps_provability.Goals as goal

pub returns : goal.returns
returns c = merge_keeps_provability

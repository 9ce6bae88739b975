use Rattle.clause_laws.proofs.SourceLoaded.{source_is_loaded}
use Rattle.clause_laws.proofs.source_is_loaded_again.Goals as goal

pub returns : goal.returns
returns c = source_is_loaded

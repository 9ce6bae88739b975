use Rattle.name_laws.proofs.Loading.{loaded_keeps, loading_keeps}
use Rattle.name_laws.proofs.loading_keeps_names.Goals as goal

pub returns-clause-loaded : goal.returns-clause-loaded
returns-clause-loaded c = loaded_keeps

pub returns-clause-program : goal.returns-clause-program
returns-clause-program c = loading_keeps

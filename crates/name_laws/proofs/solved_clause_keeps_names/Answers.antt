use Rattle.name_laws.proofs.Clauses.{solved_keeps}
use Rattle.name_laws.proofs.solved_clause_keeps_names.Goals as goal

pub returns : goal.returns
returns c = solved_keeps

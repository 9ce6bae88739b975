use Rattle.clause_laws.proofs.Loading.{loaded_clause, left_out_clause, loading_keeps}
use Rattle.clause_laws.proofs.loading_keeps_instances.Goals as goal

pub returns-clause-loaded : goal.returns-clause-loaded
returns-clause-loaded c = loaded_clause

pub returns-clause-left_out : goal.returns-clause-left_out
returns-clause-left_out c = left_out_clause

pub returns-clause-program : goal.returns-clause-program
returns-clause-program c = loading_keeps

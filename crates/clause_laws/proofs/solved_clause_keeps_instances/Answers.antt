use Rattle.clause_laws.proofs.Loading.{solved_clause_keeps, unsolved_clause_has_none}
use Rattle.clause_laws.proofs.solved_clause_keeps_instances.Goals as goal

pub returns-clause-solved : goal.returns-clause-solved
returns-clause-solved c = solved_clause_keeps

pub returns-clause-unsolved : goal.returns-clause-unsolved
returns-clause-unsolved c = unsolved_clause_has_none

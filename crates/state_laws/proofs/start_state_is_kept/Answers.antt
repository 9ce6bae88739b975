use Rattle.state_laws.proofs.Starting.{start_is_kept, start_has}
use Rattle.state_laws.proofs.start_state_is_kept.Goals as goal

pub returns-clause-state : goal.returns-clause-state
returns-clause-state c = start_is_kept

pub returns-clause-clauses : goal.returns-clause-clauses
returns-clause-clauses c = start_has

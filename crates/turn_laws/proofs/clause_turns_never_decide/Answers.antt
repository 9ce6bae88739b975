use Rattle.turn_laws.proofs.Turns.{directives_turn, clauses_turn, programs_turn}
use Rattle.turn_laws.proofs.clause_turns_never_decide.Goals as goal

pub returns-clause-directives : goal.returns-clause-directives
returns-clause-directives c = directives_turn

pub returns-clause-clauses : goal.returns-clause-clauses
returns-clause-clauses c = clauses_turn

pub returns-clause-programs : goal.returns-clause-programs
returns-clause-programs c = programs_turn

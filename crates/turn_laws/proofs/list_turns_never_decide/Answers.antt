use Rattle.turn_laws.proofs.Turns.{arguments_turn, goals_turn, constraints_turn}
use Rattle.turn_laws.proofs.list_turns_never_decide.Goals as goal

pub returns-clause-arguments : goal.returns-clause-arguments
returns-clause-arguments c = arguments_turn

pub returns-clause-goals : goal.returns-clause-goals
returns-clause-goals c = goals_turn

pub returns-clause-constraints : goal.returns-clause-constraints
returns-clause-constraints c = constraints_turn

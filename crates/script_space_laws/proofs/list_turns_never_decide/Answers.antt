use Rattle.script_space_laws.proofs.Turns.{multipliers_turn, numbers_turn, shown_turn}
use Rattle.script_space_laws.proofs.list_turns_never_decide.Goals as goal

pub returns-clause-multipliers : goal.returns-clause-multipliers
returns-clause-multipliers c = multipliers_turn

pub returns-clause-numbers : goal.returns-clause-numbers
returns-clause-numbers c = numbers_turn

pub returns-clause-shown : goal.returns-clause-shown
returns-clause-shown c = shown_turn

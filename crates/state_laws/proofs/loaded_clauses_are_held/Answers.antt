use Rattle.state_laws.proofs.Held.{loaded_is_held}
use Rattle.state_laws.proofs.Loaded.{loaded_program_is_held}
use Rattle.state_laws.proofs.loaded_clauses_are_held.Goals as goal

pub returns-clause-clause : goal.returns-clause-clause
returns-clause-clause c = loaded_is_held

pub returns-clause-program : goal.returns-clause-program
returns-clause-program c = loaded_program_is_held

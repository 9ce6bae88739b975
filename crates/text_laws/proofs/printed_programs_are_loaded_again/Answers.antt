use Rattle.text_laws.proofs.Laws.{printed_programs_are_read_again, printed_programs_are_loaded_again}
use Rattle.text_laws.proofs.printed_programs_are_loaded_again.Goals as goal

pub returns-clause-read : goal.returns-clause-read
returns-clause-read c = printed_programs_are_read_again

pub returns-clause-loaded : goal.returns-clause-loaded
returns-clause-loaded c = printed_programs_are_loaded_again

use Rattle.parsing_laws.proofs.Clauses.{draft_is, drafts_are}
use Rattle.parsing_laws.proofs.printed_programs_are_parsed.Goals as goal

pub returns-clause-clauses : goal.returns-clause-clauses
returns-clause-clauses c = draft_is

pub returns-clause-programs : goal.returns-clause-programs
returns-clause-programs c = drafts_are

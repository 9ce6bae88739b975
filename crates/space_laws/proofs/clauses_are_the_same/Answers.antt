use Rattle.space_laws.proofs.Programs.{drafts_are_the_same, clauses_are_the_same as whole_clauses, last_clauses_are_the_same}
use Rattle.space_laws.proofs.clauses_are_the_same.Goals as goal

pub returns-clause-drafts : goal.returns-clause-drafts
returns-clause-drafts c = drafts_are_the_same

pub returns-clause-clauses : goal.returns-clause-clauses
returns-clause-clauses c = whole_clauses

pub returns-clause-last : goal.returns-clause-last
returns-clause-last c = last_clauses_are_the_same

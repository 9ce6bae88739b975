use Rattle.draft_laws.proofs.Clauses.{drafts_formed, last_drafts_formed}
use Rattle.draft_laws.proofs.drafts_are_formed.Goals as goal

pub returns-clause-ended : goal.returns-clause-ended
returns-clause-ended c = drafts_formed

pub returns-clause-last : goal.returns-clause-last
returns-clause-last c = last_drafts_formed

use Rattle.draft_laws.proofs.Clauses.{drafts_shorten, comparisons_shorten, directives_shorten}
use Rattle.draft_laws.proofs.texts_get_shorter.Goals as goal

pub returns-clause-drafts : goal.returns-clause-drafts
returns-clause-drafts c = drafts_shorten

pub returns-clause-comparisons : goal.returns-clause-comparisons
returns-clause-comparisons c = comparisons_shorten

pub returns-clause-directives : goal.returns-clause-directives
returns-clause-directives c = directives_shorten

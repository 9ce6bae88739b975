use Rattle.grammar_laws.proofs.Clauses.{formed_drafts as law}
use Rattle.grammar_laws.proofs.formed_drafts_can_be_loaded.Goals as goal

pub returns : goal.returns
returns c = law

use Rattle.grammar_laws.proofs.Programs.{clauses as law}
use Rattle.grammar_laws.proofs.read_clauses_can_be_loaded.Goals as goal

pub returns : goal.returns
returns c = law

use Rattle.grammar_laws.proofs.Programs.{goals as law}
use Rattle.grammar_laws.proofs.read_goals_can_be_loaded.Goals as goal

pub returns : goal.returns
returns c = law

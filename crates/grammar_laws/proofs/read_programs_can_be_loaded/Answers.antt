use Rattle.grammar_laws.proofs.Programs.{programs as law}
use Rattle.grammar_laws.proofs.read_programs_can_be_loaded.Goals as goal

pub returns : goal.returns
returns c = law

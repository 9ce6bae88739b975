use Rattle.draft_laws.proofs.Parts.{nodes_by_parts as law}
use Rattle.draft_laws.proofs.nodes_by_parts.Goals as goal

pub returns : goal.returns
returns c = law

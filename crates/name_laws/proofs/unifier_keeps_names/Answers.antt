use Rattle.name_laws.proofs.Unifiers.{unifier_keeps}
use Rattle.name_laws.proofs.unifier_keeps_names.Goals as goal

pub returns : goal.returns
returns c = unifier_keeps

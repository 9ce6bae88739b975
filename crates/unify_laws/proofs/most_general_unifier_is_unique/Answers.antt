use Rattle.unify_laws.proofs.Unique.{only_solution}
use Rattle.unify_laws.proofs.most_general_unifier_is_unique.Goals as goal

pub returns : goal.returns
returns c = only_solution

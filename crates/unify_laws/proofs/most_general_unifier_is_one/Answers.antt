use Rattle.unify_laws.proofs.Laws.{mgu_is_solution}
use Rattle.unify_laws.proofs.most_general_unifier_is_one.Goals as goal

pub returns : goal.returns
returns c = mgu_is_solution

use Rattle.unify_laws.proofs.Laws.{none_exactly}
use Rattle.unify_laws.proofs.none_exactly_without_valuation.Goals as goal

pub returns : goal.returns
returns c = none_exactly

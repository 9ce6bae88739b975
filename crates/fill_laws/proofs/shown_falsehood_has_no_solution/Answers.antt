use Rattle.fill_laws.proofs.Shown.{false_accepted, false_unsatisfiable}
use Rattle.fill_laws.proofs.shown_falsehood_has_no_solution.Goals as goal

pub returns-clause-accepted : goal.returns-clause-accepted
returns-clause-accepted c = false_accepted

pub returns-clause-unsatisfiable : goal.returns-clause-unsatisfiable
returns-clause-unsatisfiable c = false_unsatisfiable

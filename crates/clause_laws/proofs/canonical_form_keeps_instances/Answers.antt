use Rattle.clause_laws.proofs.Numbering.{canonical_form_keeps_instances}
use Rattle.clause_laws.proofs.Again.{canonical_again}
use Rattle.clause_laws.proofs.canonical_form_keeps_instances.Goals as goal

pub returns-clause-same : goal.returns-clause-same
returns-clause-same c = canonical_form_keeps_instances

pub returns-clause-own : goal.returns-clause-own
returns-clause-own c = canonical_again

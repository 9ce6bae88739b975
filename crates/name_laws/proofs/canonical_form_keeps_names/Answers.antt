use Rattle.name_laws.proofs.Clauses.{form_keeps, new_keeps}
use Rattle.name_laws.proofs.canonical_form_keeps_names.Goals as goal

pub returns-clause-form : goal.returns-clause-form
returns-clause-form c = form_keeps

pub returns-clause-made : goal.returns-clause-made
returns-clause-made c = new_keeps

use Rattle.name_laws.proofs.Clauses.{resolvent_keeps, without_keeps, row_rules_keep}
use Rattle.name_laws.proofs.Folding.{folded_keeps}
use Rattle.name_laws.proofs.rules_keep_names.Goals as goal

pub returns-clause-resolvent : goal.returns-clause-resolvent
returns-clause-resolvent c = resolvent_keeps

pub returns-clause-without : goal.returns-clause-without
returns-clause-without c = without_keeps

pub returns-clause-rows : goal.returns-clause-rows
returns-clause-rows c = row_rules_keep

pub returns-clause-folded : goal.returns-clause-folded
returns-clause-folded c = folded_keeps

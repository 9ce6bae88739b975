use Rattle.worked_examples.proofs.Printed as examples
use Rattle.worked_examples.proofs.predicates_and_definitions.Goals as goal

pub returns-clause-once : goal.returns-clause-once
returns-clause-once c = examples.predicates_once

pub returns-clause-no_definitions : goal.returns-clause-no_definitions
returns-clause-no_definitions c = examples.no_definitions

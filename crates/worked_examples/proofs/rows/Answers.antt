use Rattle.worked_examples.proofs.Numbers as examples
use Rattle.worked_examples.proofs.rows.Goals as goal

pub returns-clause-at_whole_numbers : goal.returns-clause-at_whole_numbers
returns-clause-at_whole_numbers c = examples.at_whole_numbers

pub returns-clause-at_halves : goal.returns-clause-at_halves
returns-clause-at_halves c = examples.at_halves

pub returns-clause-strict : goal.returns-clause-strict
returns-clause-strict c = examples.strict

pub returns-clause-below : goal.returns-clause-below
returns-clause-below c = examples.below

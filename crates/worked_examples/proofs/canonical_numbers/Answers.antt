use Rattle.worked_examples.proofs.Merges as examples
use Rattle.worked_examples.proofs.canonical_numbers.Goals as goal

pub returns-clause-numbers : goal.returns-clause-numbers
returns-clause-numbers c = examples.canonical_numbers

pub returns-clause-size_and_depth : goal.returns-clause-size_and_depth
returns-clause-size_and_depth c = examples.size_and_depth

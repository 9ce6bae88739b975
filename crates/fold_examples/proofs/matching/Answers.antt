use Rattle.fold_examples.proofs.Folds as examples
use Rattle.fold_examples.proofs.matching.Goals as goal

pub returns-clause-few : goal.returns-clause-few
returns-clause-few c = examples.too_few_positions

pub returns-clause-other : goal.returns-clause-other
returns-clause-other c = examples.other_atom

pub returns-clause-two : goal.returns-clause-two
returns-clause-two c = examples.two_atoms

pub returns-clause-turned : goal.returns-clause-turned
returns-clause-turned c = examples.two_atoms_the_other_way

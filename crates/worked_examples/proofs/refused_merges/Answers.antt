use Rattle.worked_examples.proofs.Merges as examples
use Rattle.worked_examples.proofs.refused_merges.Goals as goal

pub returns-clause-no_clause : goal.returns-clause-no_clause
returns-clause-no_clause c = examples.merge_of_no_clause

pub returns-clause-no_atom : goal.returns-clause-no_atom
returns-clause-no_atom c = examples.merge_of_no_atom

pub returns-clause-one_atom : goal.returns-clause-one_atom
returns-clause-one_atom c = examples.merge_of_one_atom

pub returns-clause-unequal_atoms : goal.returns-clause-unequal_atoms
returns-clause-unequal_atoms c = examples.merge_of_unequal_atoms

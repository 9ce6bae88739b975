use Rattle.worked_examples.proofs.Printed as examples
use Rattle.worked_examples.proofs.printed_clauses.Goals as goal

pub returns-clause-one_atom : goal.returns-clause-one_atom
returns-clause-one_atom c = examples.printed_clause

pub returns-clause-two_atoms : goal.returns-clause-two_atoms
returns-clause-two_atoms c = examples.printed_longer_clause

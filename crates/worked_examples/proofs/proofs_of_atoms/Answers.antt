use Rattle.worked_examples.proofs.Meaning as examples
use Rattle.worked_examples.proofs.proofs_of_atoms.Goals as goal

pub returns-clause-of_two_nodes : goal.returns-clause-of_two_nodes
returns-clause-of_two_nodes c = examples.proof_of_two_nodes

pub returns-clause-no_proof : goal.returns-clause-no_proof
returns-clause-no_proof c = examples.not_provable

pub returns-clause-no_proof_above : goal.returns-clause-no_proof_above
returns-clause-no_proof_above c = examples.not_provable_above

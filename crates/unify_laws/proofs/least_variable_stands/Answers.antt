use Rattle.unify_laws.proofs.Classes.{least_of_class}
use Rattle.unify_laws.proofs.least_variable_stands.Goals as goal

pub returns : goal.returns
returns c = least_of_class

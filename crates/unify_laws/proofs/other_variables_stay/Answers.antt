use Rattle.unify_laws.proofs.Classes.{others_stay}
use Rattle.unify_laws.proofs.other_variables_stay.Goals as goal

pub returns : goal.returns
returns c = others_stay

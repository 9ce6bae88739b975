use Rattle.unify_laws.proofs.Classes.{image_settled}
use Rattle.unify_laws.proofs.image_of_image_is_image.Goals as goal

pub returns : goal.returns
returns c = image_settled

use Rattle.unify_laws.proofs.Classes.{each_image}
use Rattle.unify_laws.proofs.one_image_for_each_class.Goals as goal

pub returns : goal.returns
returns c = each_image

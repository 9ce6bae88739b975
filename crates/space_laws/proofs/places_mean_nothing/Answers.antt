use Rattle.space_laws.proofs.Meaning.{places_mean_nothing as law}
use Rattle.space_laws.proofs.places_mean_nothing.Goals as goal

pub returns : goal.returns
returns c = law

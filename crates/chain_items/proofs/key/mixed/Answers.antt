use Rattle.std.proofs.Common.{refl}
use Rattle.chain_items.specs.Keys.{mixed}
use Rattle.chain_items.proofs.key.mixed.Goals as goal

pub returns : goal.returns
unfolding mixed
returns c = refl

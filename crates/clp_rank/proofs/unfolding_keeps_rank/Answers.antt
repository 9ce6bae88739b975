use Rattle.clp_rank.specs.Entries.{setting}
use Rattle.std.specs.Prelude.{Contains}
use Rattle.clp_rank.proofs.Unfolding.{unfolding_keeps}
use Rattle.clp_rank.proofs.unfolding_keeps_rank.Goals as goal

pub returns : goal.returns
returns c = λ defined base live next k u r. unfolding_keeps (setting defined) (Contains base) (Contains live) (Contains next) k u r

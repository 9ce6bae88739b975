use Rattle.clp_rank.specs.Entries.{setting}
use Rattle.std.specs.Prelude.{Contains}
use Rattle.clp_rank.proofs.Starting.{start_ranked}
use Rattle.clp_rank.proofs.start_is_ranked.Goals as goal

pub returns : goal.returns
returns c = λ defined base marked none. start_ranked (setting defined) (Contains base) marked none

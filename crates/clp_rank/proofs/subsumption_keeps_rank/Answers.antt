use Rattle.clp_rank.specs.Entries.{setting}
use Rattle.std.specs.Prelude.{Contains}
use Rattle.clp_rank.proofs.Subsuming.{subsuming_keeps}
use Rattle.clp_rank.proofs.subsumption_keeps_rank.Goals as goal

pub returns : goal.returns
returns c = λ defined base live next k e u r. subsuming_keeps (setting defined) (Contains base) (Contains live) (Contains next) k e u r

use Rattle.clp_rank.specs.Entries.{setting}
use Rattle.std.specs.Prelude.{Contains}
use Rattle.clp_rank.proofs.Folding.{folding_keeps}
use Rattle.clp_rank.proofs.folding_keeps_rank.Goals as goal

pub returns : goal.returns
returns c = λ defined base live next k folded n u r. folding_keeps (setting defined) (Contains base) (Contains live) (Contains next) k folded n u r

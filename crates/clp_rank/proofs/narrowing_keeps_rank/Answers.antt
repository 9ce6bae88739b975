use Rattle.clp_rank.specs.Entries.{setting}
use Rattle.std.specs.Prelude.{Contains}
use Rattle.clp_rank.proofs.Narrowing.{narrowing_keeps}
use Rattle.clp_rank.proofs.narrowing_keeps_rank.Goals as goal

pub returns : goal.returns
returns c = λ defined base live next k narrower u r. narrowing_keeps (setting defined) (Contains base) (Contains live) (Contains next) k narrower u r

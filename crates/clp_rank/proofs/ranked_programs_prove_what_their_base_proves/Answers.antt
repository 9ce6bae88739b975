use Rattle.clp_rank.specs.Entries.{setting}
use Rattle.std.specs.Prelude.{Contains}
use Rattle.clp_rank.proofs.Total.{same_meaning}
use Rattle.clp_rank.proofs.ranked_programs_prove_what_their_base_proves.Goals as goal

pub returns : goal.returns
returns c = λ defined base live r a. same_meaning (setting defined) (Contains base) (Contains live) r a

use Rattle.clp_rank.specs.Entries.{setting}
use Rattle.std.specs.Prelude.{Contains}
use Rattle.clp_rank.proofs.Least.{least_form, from_least_form}
use Rattle.clp_rank.proofs.rank_by_least_proofs.Goals as goal

pub returns-clause-only : goal.returns-clause-only
returns-clause-only c = λ defined base live r a w l. least_form (setting defined) (Contains base) (Contains live) r a w l

pub returns-clause-back : goal.returns-clause-back
returns-clause-back c = λ defined base live has h a p. from_least_form (setting defined) (Contains base) (Contains live) has h a p

use Rattle.std.specs.Prelude.{Contains}
use Rattle.clp_rank.specs.Entries.{setting}
use Rattle.clp_meaning.specs.Laws.{without_atom}
use Rattle.clause_model.specs.Canonical.{canonical_form}
use Rattle.clp_rank.proofs.Narrowing.{narrowing_keeps}
use Rattle.rule_laws.proofs.Merging.{narrows}
use Rattle.rule_laws.proofs.merge_keeps_rank.Goals as goal

pub returns-clause-record_of : goal.returns-clause-record_of
returns-clause-record_of c = narrows

pub returns-clause-rank : goal.returns-clause-rank
returns-clause-rank c = λ defined base live next k first second h r. narrowing_keeps (setting defined) (Contains base) (Contains live) (Contains next) k (record { clause = canonical_form (without_atom k.clause second); mark = k.mark }) (narrows defined live next k first second h) r

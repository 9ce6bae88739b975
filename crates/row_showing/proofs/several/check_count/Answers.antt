use Rattle.std.proofs.Common.{◌∙◌, ap, length}
use Rattle.map_model.specs.ShowingAll.{count_broken}
use Rattle.row_showing.proofs.Successive.{counted, equal_counts}
use Rattle.row_showing.proofs.several.check_count.Goals as goal

pub returns-in-Find-clause-counted : goal.returns-in-Find-clause-counted
returns-in-Find-clause-counted c qs e = counted qs c.args.show.now (ap (λ s. count_broken s (length qs)) c.in-Find.is)

pub returns-then-len-count-clause-counted : goal.returns-then-len-count-clause-counted
returns-then-len-count-clause-counted c qs e = counted qs c.args.show.now (ap (λ s. count_broken s (length qs)) c.in-Each.is ∙ equal_counts c.in-Each.ways qs (cc))

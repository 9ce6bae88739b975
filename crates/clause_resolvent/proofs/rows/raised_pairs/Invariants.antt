use Rattle.std.proofs.Common.{◌≡◌, take}
use Rattle.clause_resolvent.specs.Raised.{raised_pairs}
use Rattle.clause_resolvent.proofs.rows.raised_pairs.Given as goal

abbrev pub invariant-loop-pair : goal.invariant-loop-pair
invariant-loop-pair l = l.all.items ≡ raised_pairs l.by (take l.pair-index l.pairs)

use Rattle.std.proofs.Common.{◌≡◌, take}
use Rattle.clp_model.proofs.clause.SourceClause.copy.Given as goal

abbrev pub invariant-loop-atom : goal.invariant-loop-atom
invariant-loop-atom l = l.atoms ≡ take l.atom-index l.atom-items

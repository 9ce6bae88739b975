use Rattle.std.proofs.Common.{take}
use Rattle.unify.specs.Pairs.{AreEntered}
use Rattle.unify.proofs.unifying.enter_pairs.Given as goal

abbrev pub invariant-loop-a : goal.invariant-loop-a
invariant-loop-a l = AreEntered l.store l.graph (take l.a-index l.pairs) l.equations.items

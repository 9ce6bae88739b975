use Rattle.std.proofs.Common.{map, take}
use Rattle.clause_fold.specs.Marks.{Adds}
use Rattle.clause_fold.proofs.marks.Marks.add_row.Given as goal

abbrev pub invariant-loop-pair : goal.invariant-loop-pair
invariant-loop-pair l = Adds l.initial.self l.self (map (λ p. p.0) (take l.pair-index l.pair-items))

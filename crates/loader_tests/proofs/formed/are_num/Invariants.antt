use Rattle.std.proofs.Common.{take, map, All}
use Rattle.clause_store.specs.Stored.{IsNum}
use Rattle.loader_tests.proofs.formed.are_num.Given as goal

abbrev pub invariant-loop-pair : goal.invariant-loop-pair
invariant-loop-pair l = All (IsNum l.sorts) (map (λ p. p.0) (take l.pair-index l.pair-items))

use Rattle.std.proofs.Common.{take, All}
use Rattle.clause_loader.specs.WellFormed.{IsWellFormed, IsNarrow}
use Rattle.loader_tests.proofs.formed.are_well_formed.Given as goal

abbrev pub invariant-loop-source : goal.invariant-loop-source
invariant-loop-source l = record {
  formed : All IsWellFormed (take l.source-index l.sources);
  narrow : All IsNarrow (take l.source-index l.sources);
}

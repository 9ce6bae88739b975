use Rattle.std.proofs.Common.{drop}
use Rattle.clause_loader.specs.Loaded.{AreStored}
use Rattle.loader_tests.proofs.loads.are_again.Given as goal

abbrev pub invariant-loop-place : goal.invariant-loop-place
invariant-loop-place l = AreStored l.loaded.store (drop l.place-index l.place-items)

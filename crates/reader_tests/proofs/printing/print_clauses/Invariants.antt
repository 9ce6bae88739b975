use Rattle.std.proofs.Common.{drop}
use Rattle.clause_loader.specs.Loaded.{AreStored}
use Rattle.reader_tests.proofs.printing.print_clauses.Given as goal

abbrev pub invariant-loop-place : goal.invariant-loop-place
invariant-loop-place l = AreStored l.store (drop l.place-index l.places)

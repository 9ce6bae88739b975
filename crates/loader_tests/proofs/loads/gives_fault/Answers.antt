use Rattle.std.proofs.Common.{refl}
use Rattle.loader_tests.proofs.loads.gives_fault.Goals as goal

pub load-requires-clause-formed : goal.load-requires-clause-formed
load-requires-clause-formed c = c.if-not-are_well_formed.ensures.formed refl

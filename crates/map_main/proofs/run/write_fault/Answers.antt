use Rattle.std.proofs.Common.{refl}
use Rattle.map_main.specs.Endings.IsWritten.{no_memory}
use Rattle.map_main.proofs.Clauses.{takes_nothing}
use Rattle.map_main.proofs.run.write_fault.Goals as goal

pub returns-in-Err : goal.returns-in-Err
returns-in-Err g c = no_memory (takes_nothing _ _) refl

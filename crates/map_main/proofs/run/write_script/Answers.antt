use Rattle.std.proofs.Common.{refl}
use Rattle.map_main.specs.Endings.IsWritten.{no_memory}
use Rattle.map_main.proofs.Clauses.{takes_nothing}
use Rattle.map_main.proofs.run.write_script.Goals as goal

pub returns-then-is_err : goal.returns-then-is_err
returns-then-is_err g c = no_memory (takes_nothing _ _) refl

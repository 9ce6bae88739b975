use Rattle.std.proofs.Common.{Err, ap}
use Rattle.map_main.specs.Endings.IsWritten.{whole, sink_failed, no_memory}
use Rattle.map_main.proofs.run.write.Goals as goal

pub returns-in-Ok : goal.returns-in-Ok
returns-in-Ok g c = whole c.in-Ok.ensures.all (c.in-Ok.ensures.quiet (λ e. cc))

pub returns-in-Err-Failed : goal.returns-in-Err-Failed
returns-in-Err-Failed g c = sink_failed c.in-Err-Failed.ensures.some (c.in-Err-Failed.ensures.cause (ap Err c.in-Err-Failed.field-0-is))

pub returns-in-Err-NoMemory : goal.returns-in-Err-NoMemory
returns-in-Err-NoMemory g c =
    no_memory c.in-Err-NoMemory.ensures.some (c.in-Err-NoMemory.ensures.quiet (λ e. let h = c.in-Err-NoMemory.field-0-is in cc))

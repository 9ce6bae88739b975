use Rattle.std.proofs.Common.{refl, sym, subst, ◌∙◌}
use Rattle.command_model.specs.declared.status.Status.TheVariants as status
use Rattle.command_model.specs.Causes.{LeadsTo}
use Rattle.map_main.specs.Endings.{Stops}
use Rattle.map_main.specs.Endings.Ends.{answers, shelf_failed, no_memory_before}
use Rattle.map_main.proofs.run.write_stop.Goals as goal

pub returns-in-LongProgram : goal.returns-in-LongProgram
returns-in-LongProgram g c = λ files p shelf shelf' failed h.
    let k = subst (Stops shelf shelf' failed files p) c.in-LongProgram.is h in
    answers status.BadProgram c.as_bytes.result.now (subst (LeadsTo files p status.BadProgram) (sym (c.as_bytes.ensures.value ∙ c.long_program_line.ensures)) k.1) k.0 _ c.write.ensures

pub returns-in-LongScript : goal.returns-in-LongScript
returns-in-LongScript g c = λ files p shelf shelf' failed h.
    let k = subst (Stops shelf shelf' failed files p) c.in-LongScript.is h in
    answers status.BadScript c.as_bytes-in-LongScript.result.now (subst (LeadsTo files p status.BadScript) (sym (c.as_bytes-in-LongScript.ensures.value ∙ c.long_script_line.ensures)) k.1) k.0 _ c.write-in-LongScript.ensures

pub returns-in-Fault : goal.returns-in-Fault
returns-in-Fault g c = λ files p shelf shelf' failed h.
    let k = subst (Stops shelf shelf' failed files p) c.in-Fault.is h in
    answers _ _ k.1 k.0 _ c.write_fault.ensures

pub returns-in-ShelfFault : goal.returns-in-ShelfFault
returns-in-ShelfFault g c = λ files p shelf shelf' failed h.
    let k = subst (Stops shelf shelf' failed files p) c.in-ShelfFault.is h in
    shelf_failed k.0 k.1 refl refl

pub returns-in-NoMemory : goal.returns-in-NoMemory
returns-in-NoMemory g c = λ files p shelf shelf' failed h.
    no_memory_before (subst (Stops shelf shelf' failed files p) c.in-NoMemory.is h) refl refl

-- Plans that are left before their end.
use Rattle.std.proofs.Common.{◌≡◌, ℕ, ◌⊎◌, inl, inr, List, sym, subst, ◌∙◌}
use Rattle.std.specs.Prelude.{Option, Ok}
use Rattle.map_base.specs.Outside.{Files, Rose}
use Rattle.map_model.specs.State.{State}
use Rattle.command_model.specs.declared.status.Status.{Status}
use Rattle.command_model.specs.Plan.{after_program, script_on_program}
use Rattle.command_model.specs.Causes.{LeadsTo, Awaits}
use Rattle.map_main.specs.declared.replaying.Stop.{Stop}
use Rattle.map_main.specs.declared.replaying.Stop.TheVariants as stop
use Rattle.map_main.specs.Endings.{Opens, Stops}

-- once the program is loaded, the plan goes on with the script
module _ (text_of : State → List ℕ) (files : Option Files) (program script : List ℕ) (start : State) (o : Opens files program start) where
  reached : (s : Status) (text : List ℕ) → LeadsTo files (after_program text_of script (Ok start)) s text → LeadsTo files (script_on_program text_of program script) s text
  reached s text l = inr (o.bytes, o.given, subst (λ r. LeadsTo files (after_program text_of script r) s text) (sym o.opens) l)

  awaited : (name : List ℕ) → Awaits files (after_program text_of script (Ok start)) name → Awaits files (script_on_program text_of program script) name
  awaited name a = inr (inr (o.bytes, o.given, subst (λ r. Awaits files (after_program text_of script r) name) (sym o.opens) a))

  -- what stops there stops the whole plan
  pub stops_later : (shelf between shelf' : ℕ) (failed : List ℕ) (e : Stop) → between ≡ shelf
      → Stops between shelf' failed files (after_program text_of script (Ok start)) e → Stops shelf shelf' failed files (script_on_program text_of program script) e
  stops_later shelf between shelf' failed stop.LongProgram same h = (h.0 ∙ same, reached _ _ h.1)
  stops_later shelf between shelf' failed stop.LongScript same h = (h.0 ∙ same, reached _ _ h.1)
  stops_later shelf between shelf' failed (stop.Fault f) same h = (h.0 ∙ same, reached _ _ h.1)
  stops_later shelf between shelf' failed stop.ShelfFault same h = (subst (λ n. Rose n shelf') same h.0, awaited failed h.1)
  stops_later shelf between shelf' failed stop.NoMemory same h = h ∙ same

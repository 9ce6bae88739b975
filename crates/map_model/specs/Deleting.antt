-- delete C false: a clause goes whose rows have no common solution.
use Rattle.std.specs.Prelude.{ℕ, List, [], ◌∷◌, Option, Some, None, Result, Ok, Err}
use Rattle.farkas_check.specs.declared.cert.Cert.{Cert}
use Rattle.map_model.specs.declared.shown.Shown.{Shown}
use Rattle.map_model.specs.declared.shown.Shown.TheVariants.{Given}
use Rattle.map_model.specs.declared.step.Step.TheVariants.{DeleteFalse}
use Rattle.map_model.specs.declared.refusal.Refusal.{Refusal}
use Rattle.map_model.specs.declared.refusal.Refusal.TheVariants.{NoClause}
use Rattle.map_model.specs.State.{Entry, State, live_at}
use Rattle.map_model.specs.Rewriting.{rewritten}
use Rattle.map_model.specs.Showing.{shown_false_by}

-- the clause goes, and the step is kept with the certificate
abbrev pub false_deleted : State → ℕ → Result Cert Refusal → Result State Refusal
false_deleted s id (Ok c) = rewritten s (record { dead = id ∷ []; made = []; defines = None; step = DeleteFalse id (Given c) })
false_deleted s id (Err refusal) = Err refusal

-- of the clause of this entry, if there is a live one with this id
abbrev pub delete_false_of : State → ℕ → Shown → Option Entry → Result State Refusal
delete_false_of s id show None = Err (NoClause id)
delete_false_of s id show (Some e) = false_deleted s id (shown_false_by e.clause.rows show)

-- the state after `delete C false show ..`, or its first broken condition
abbrev pub delete_false_after : State → ℕ → Shown → Result State Refusal
delete_false_after s id show = delete_false_of s id show (live_at s id)

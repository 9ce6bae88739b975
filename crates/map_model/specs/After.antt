-- What a step makes of a state, and what a script makes of it.
use Rattle.std.specs.Prelude.{ℕ, suc, List, [], ◌∷◌, length, Result, Ok, Err, nat_le, if◌then◌else◌}
use Rattle.clp_model.specs.declared.limit.Limit.TheVariants.{Steps}
use Rattle.map_model.specs.declared.step.Step.{Step}
use Rattle.map_model.specs.declared.step.Step.TheVariants.{Define, Unfold, Fold, DeleteFalse, Merge, Add, Drop, Project, Equate}
use Rattle.map_model.specs.declared.refusal.Refusal.{Refusal}
use Rattle.map_model.specs.declared.refusal.Refusal.TheVariants.{TooLarge}
use Rattle.map_model.specs.State.{State}
use Rattle.map_model.specs.Defining.{define_after}
use Rattle.map_model.specs.Unfolding.{unfold_after}
use Rattle.map_model.specs.Folding.{fold_after}
use Rattle.map_model.specs.Merging.{merge_after}
use Rattle.map_model.specs.Deleting.{delete_false_after}
use Rattle.map_model.specs.Replacing.{add_after, drop_after, project_after, equate_after}

-- the state after a step by its rule, where there may be one step more
abbrev pub by_rule : State → Step → Result State Refusal
by_rule s (Define source) = define_after s source
by_rule s (Unfold id at) = unfold_after s id at
by_rule s (Fold id at by with keep show) = fold_after s id at by with keep show
by_rule s (DeleteFalse id show) = delete_false_after s id show
by_rule s (Merge id first second) = merge_after s id first second
by_rule s (Add id row show) = add_after s id row show
by_rule s (Drop id row show) = drop_after s id row show
by_rule s (Project id var) = project_after s id var
by_rule s (Equate id var to show) = equate_after s id var to show

-- the state after a step, or its first broken condition
abbrev pub after : State → Step → Result State Refusal
after s step = if nat_le 100000 (length s.steps) then Err (TooLarge Steps) else by_rule s step

-- goes on with the state after the step of this number, or tells its refusal
abbrev pub go_on : ℕ → (State → Result State (ℕ × Refusal)) → Result State Refusal → Result State (ℕ × Refusal)
go_on number next (Ok s) = next s
go_on number next (Err refusal) = Err (number, refusal)

-- the state after steps of which the first has this number, or the number and refusal of the first
-- that is refused
abbrev pub run_from : ℕ → State → List Step → Result State (ℕ × Refusal)
run_from number s [] = Ok s
run_from number s (step ∷ steps) = go_on number (λ t. run_from (suc number) t steps) (after s step)

-- the state after a script, or the number, from 1, and refusal of the first refused step
abbrev pub run : State → List Step → Result State (ℕ × Refusal)
run s steps = run_from 1 s steps

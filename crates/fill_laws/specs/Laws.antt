-- The laws of accepted steps and of the steps that the history keeps.
use Rattle.std.specs.Prelude.{◌≡◌, ℕ, List, [], ◌∷◌, ◌++◌, map, None, Ok, All}
use Rattle.clp_model.specs.Clauses.{Row}
use Rattle.linear_model.specs.Normal.{normal}
use Rattle.linear_model.specs.Certificates.{Entails, Unsatisfiable}
use Rattle.fold_model.specs.Folded.{Question}
use Rattle.farkas_check.specs.declared.cert.Cert.{Cert}
use Rattle.farkas_check.specs.Checks.{shown_fault}
use Rattle.map_model.specs.declared.shown.Shown.{Shown}
use Rattle.map_model.specs.declared.shown.Shown.TheVariants.{Given}
use Rattle.map_model.specs.declared.shown.Shows.{Shows}
use Rattle.map_model.specs.declared.shown.Shows.TheVariants.{Each}
use Rattle.map_model.specs.declared.step.Step.{Step}
use Rattle.map_model.specs.State.{State}
use Rattle.map_model.specs.Rewriting.{Rewriting, rewritten}
use Rattle.map_model.specs.Showing.{shown_by, false_fault_of, shown_false_by}
use Rattle.map_model.specs.ShowingAll.{certificates}
use Rattle.map_model.specs.After.{by_rule, after, run}
use Rattle.fill_laws.specs.Accepted.{IsRewriting}

-- ---- certificates
abbrev pub ShownRowIsAccepted : Type 0
ShownRowIsAccepted = (place : ℕ) (rows : List Row) (target : Row) (show : Shown) (c : Cert) → shown_by place rows target show ≡ Ok c → shown_fault rows target c ≡ None

abbrev pub ShownRowIsEntailed : Type 0
ShownRowIsEntailed = (place : ℕ) (rows : List Row) (target : Row) (show : Shown) (c : Cert) → shown_by place rows target show ≡ Ok c → Entails rows target

abbrev pub ShownFalsehoodIsAccepted : Type 0
ShownFalsehoodIsAccepted = (rows : List Row) (show : Shown) (c : Cert) → shown_false_by rows show ≡ Ok c → false_fault_of rows c ≡ None

abbrev pub ShownFalsehoodHasNoSolution : Type 0
ShownFalsehoodHasNoSolution = (rows : List Row) (show : Shown) (c : Cert) → shown_false_by rows show ≡ Ok c → Unsatisfiable rows

-- the certificates by which rows are shown, one after another, are accepted as given
abbrev pub ShownRowsAreAccepted : Type 0
ShownRowsAreAccepted = (qs : List Question) (show : Shows) (cs : List Cert) → certificates qs show ≡ Ok cs → certificates qs (Each (map Given cs)) ≡ Ok cs

abbrev pub ShownRowsAreEntailed : Type 0
ShownRowsAreEntailed = (qs : List Question) (show : Shows) (cs : List Cert) → certificates qs show ≡ Ok cs → All (λ q. Entails q.rows (normal q.target)) qs

-- ---- accepted steps
abbrev pub AcceptedStepIsItsRewriting : Type 0
AcceptedStepIsItsRewriting = (s t : State) (step : Step) → after s step ≡ Ok t → (r : Rewriting) × IsRewriting s step r × (rewritten s r ≡ Ok t)

abbrev pub RewritingOfItsRule : Type 0
RewritingOfItsRule = (s : State) (step : Step) (r : Rewriting) → IsRewriting s step r → by_rule s step ≡ rewritten s r

-- ---- the history
-- the step that is kept is accepted in the place of the one that was given, and makes the same state
abbrev pub FilledStepRunsToTheSame : Type 0
FilledStepRunsToTheSame = (s t : State) (step : Step) → after s step ≡ Ok t → (filled : Step) × (t.steps ≡ s.steps ++ filled ∷ []) × (after s filled ≡ Ok t)

-- so do the steps that a run has added
abbrev pub FilledRunRunsToTheSame : Type 0
FilledRunRunsToTheSame = (s t : State) (steps : List Step) → run s steps ≡ Ok t → (filled : List Step) × (t.steps ≡ s.steps ++ filled) × (run s filled ≡ Ok t)

-- the history of a run from a state without one makes the state again
abbrev pub FilledScriptRunsToTheSame : Type 0
FilledScriptRunsToTheSame = (s t : State) (steps : List Step) → s.steps ≡ [] → run s steps ≡ Ok t → run s t.steps ≡ Ok t

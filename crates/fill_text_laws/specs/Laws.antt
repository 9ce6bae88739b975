-- The laws of scripts whose certificates are written out.
use Rattle.std.specs.Prelude.{◌≡◌, ◌<◌, ◌^◌, ℕ, true, List, length, Ok, All}
use Rattle.std.specs.Str.{is_utf8}
use Rattle.map_model.specs.declared.step.Step.{Step}
use Rattle.map_model.specs.State.{State}
use Rattle.map_model.specs.FormedSteps.{IsFormedStep}
use Rattle.map_model.specs.After.{after, run}
use Rattle.standing_model.specs.Names.{is_short, is_ordinary}
use Rattle.name_laws.specs.Names.{IsStepOver}
use Rattle.read_name_laws.specs.Steps.{IsStepOf}
use Rattle.read_name_laws.specs.Laws.{HasTextNames}
use Rattle.script_grammar.specs.ScriptText.{script_text, IsInRange, IsScript}
use Rattle.script_laws.specs.Laws.{IsPrintableStep}
use Rattle.replay_model.specs.Replay.{replayed}
use Rattle.replay_model.specs.Filling.{FillsScript}

-- ---- the steps of the history
abbrev pub FilledStepIsInRange : Type 0
FilledStepIsInRange = (s t : State) (step : Step) → after s step ≡ Ok t → IsInRange step → All IsInRange s.steps → All IsInRange t.steps

abbrev pub FilledStepsAreInRange : Type 0
FilledStepsAreInRange = (s t : State) (steps : List Step) → run s steps ≡ Ok t → All IsInRange steps → All IsInRange s.steps → All IsInRange t.steps

abbrev pub FilledStepKeepsScript : Type 0
FilledStepKeepsScript = (s t : State) (step : Step) → after s step ≡ Ok t → IsInRange step → IsScript s.steps → IsScript t.steps

abbrev pub FilledStepsAreAScript : Type 0
FilledStepsAreAScript = (s t : State) (steps : List Step) → run s steps ≡ Ok t → All IsInRange steps → IsScript s.steps → IsScript t.steps

-- what is known of a step that was read: it can be carried out, and its names and predicates are such as may be written
pub record IsReadStep (step : Step) : Type 0 where
  pub formed : IsFormedStep step
  pub over : IsStepOver is_short is_ordinary step
  pub named : IsStepOf HasTextNames (λ _. Unit {0}) (λ name. is_utf8 name ≡ true) step

abbrev pub FilledStepIsPrintable : Type 0
FilledStepIsPrintable = (s t : State) (step : Step) → after s step ≡ Ok t → IsReadStep step → All IsPrintableStep s.steps → All IsPrintableStep t.steps

abbrev pub FilledStepsArePrintable : Type 0
FilledStepsArePrintable =
    (s t : State) (steps : List Step) → run s steps ≡ Ok t → All IsReadStep steps → All IsPrintableStep s.steps → All IsPrintableStep t.steps

-- ---- a replay
abbrev pub ReplayedStepsAreAScript : Type 0
ReplayedStepsAreAScript =
    (p s : List ℕ) (t : State) → length s < 2 ^ 32 → replayed p s ≡ Ok t → IsScript t.steps × All IsPrintableStep t.steps

abbrev pub ReplayIsFilled : Type 0
ReplayIsFilled = (p s : List ℕ) (t : State) → length s < 2 ^ 32 → replayed p s ≡ Ok t → FillsScript p s (script_text t.steps)

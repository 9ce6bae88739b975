-- A step that is kept with the certificate by which it was shown.
use Rattle.std.specs.Prelude.{◌≡◌, [], ◌∷◌, ◌++◌}
use Rattle.farkas_check.specs.declared.cert.Cert.{Cert}
use Rattle.map_model.specs.declared.shown.Shown.{Shown}
use Rattle.map_model.specs.declared.shown.Shown.TheVariants.{Given}
use Rattle.map_model.specs.declared.step.Step.{Step}
use Rattle.map_model.specs.State.{State}

-- the step is the last of the state after it, and has a certificate in the place of what showed it
pub record IsFilled (before after : State) (by : Shown → Step) (step : Step) : Type 0 where
  pub certificate : Cert
  pub given : step ≡ by (Given certificate)
  pub last : after.steps ≡ before.steps ++ step ∷ []

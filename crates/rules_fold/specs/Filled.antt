-- A step that is kept with the certificates by which its rows were shown.
use Rattle.std.specs.Prelude.{◌≡◌, List, [], ◌∷◌, ◌++◌, map}
use Rattle.farkas_check.specs.declared.cert.Cert.{Cert}
use Rattle.map_model.specs.declared.shown.Shown.TheVariants.{Given}
use Rattle.map_model.specs.declared.shown.Shows.{Shows}
use Rattle.map_model.specs.declared.shown.Shows.TheVariants.{Each}
use Rattle.map_model.specs.declared.step.Step.{Step}
use Rattle.map_model.specs.State.{State}

-- the step has certificates in the place of what showed its rows
pub record HasCertificates (by : Shows → Step) (step : Step) : Type 0 where
  pub certificates : List Cert
  pub given : step ≡ by (Each (map Given certificates))

-- and is the last of the state after it
pub record IsFilled (before after : State) (by : Shows → Step) (step : Step) : Type 0 where
  pub has : HasCertificates by step
  pub last : after.steps ≡ before.steps ++ step ∷ []

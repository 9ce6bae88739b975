-- What is asked of a step that is applied.
use Rattle.clause_loader.specs.WellFormed.{IsWellFormed}
use Rattle.map_model.specs.declared.step.Step.{Step}
use Rattle.map_model.specs.declared.step.Step.TheVariants.{Define}

-- the clause of a definition may be loaded
abbrev pub HasFormedSource : Step → Type 0
HasFormedSource (Define source) = IsWellFormed source
HasFormedSource _ = Unit {0}

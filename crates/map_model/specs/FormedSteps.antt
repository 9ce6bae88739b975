-- What is asked of a step that is given.
use Rattle.linear_model.specs.Forms.{IsRising}
use Rattle.clause_store.specs.Source.{meaning_of}
use Rattle.map_model.specs.declared.step.Step.{Step}
use Rattle.map_model.specs.declared.step.Step.TheVariants.{Define, Add}
use Rattle.map_model.specs.WellFormed.{IsWellFormed}

-- The source of a definition is well-formed; the variables of a row that is added rise, and none has coefficient 0.
abbrev pub IsFormedStep : Step → Type 0
IsFormedStep (Define source) = IsWellFormed (meaning_of source)
IsFormedStep (Add id row show) = IsRising row.pairs
IsFormedStep _ = Unit {0}

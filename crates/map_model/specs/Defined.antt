-- The definitions that a script adds, as they are written.
use Rattle.std.specs.Prelude.{List, [], ◌∷◌, ◌++◌}
use Rattle.clp_model.specs.Clauses.{Clause}
use Rattle.clause_store.specs.Source.{meaning_of}
use Rattle.map_model.specs.declared.step.Step.{Step}
use Rattle.map_model.specs.declared.step.Step.TheVariants.{Define}

-- the definition that a step adds: that of define
abbrev pub definition_of : Step → List Clause
definition_of (Define source) = meaning_of source ∷ []
definition_of _ = []

-- the definitions that a script adds, in order
abbrev pub definitions_of : List Step → List Clause
definitions_of [] = []
definitions_of (step ∷ steps) = definition_of step ++ definitions_of steps

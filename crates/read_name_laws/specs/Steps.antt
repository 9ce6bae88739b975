-- What is said of a step by its clause, its row or its name.
use Rattle.std.specs.Prelude.{ℕ, List}
use Rattle.clp_model.specs.Clauses.{Row}
use Rattle.clause_store.specs.declared.source.SourceClause.{SourceClause}
use Rattle.map_model.specs.declared.step.Step.{Step}
use Rattle.map_model.specs.declared.step.Step.TheVariants.{Define, Fold, Add}

-- C of the clause of a definition, R of a row that is added, and N of the name of the predicate by whose definition is
-- folded
abbrev pub IsStepOf : (SourceClause → Type 0) → (Row → Type 0) → (List ℕ → Type 0) → Step → Type 0
IsStepOf C R N (Define source) = C source
IsStepOf C R N (Fold id at by with keep show) = N by.name
IsStepOf C R N (Add id row show) = R row
IsStepOf C R N _ = Unit {0}

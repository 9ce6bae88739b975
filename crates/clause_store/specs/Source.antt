-- What a source clause stands for.
use Rattle.clp_model.specs.Clauses.{Clause as Meaning}
use Rattle.clause_store.specs.declared.source.SourceClause.{SourceClause}

-- the clause that was read, its equations and rows included
abbrev pub meaning_of : SourceClause → Meaning
meaning_of s = record { head = s.head; equations = s.equations; rows = s.rows; body = s.atoms; sorts = s.sorts }

-- What holds of each clause that is read.
use Rattle.std.specs.Prelude.{All}
use Rattle.lin_row.specs.Rows.{IsKept}
use Rattle.clause_model.specs.Canonical.{HasRisingRows}
use Rattle.clause_model.specs.Solved.{RowsAreNum}
use Rattle.clause_store.specs.declared.source.SourceClause.{SourceClause}
use Rattle.clause_store.specs.Source.{meaning_of}
use Rattle.clause_loader.specs.WellFormed as loader
use Rattle.clause_loader.specs.WellFormed.{IsNarrow}
use Rattle.map_model.specs.WellFormed as state
use Rattle.standing_model.specs.Names.{is_short, is_ordinary}
use Rattle.name_laws.specs.Names.{AreOver, EquationsHaveNames}

-- it may be loaded, its rows are in normal form and in range, and its names and predicates are such as may be written
pub record IsReadClause (c : SourceClause) : Type 0 where
  pub formed : loader.IsWellFormed c
  pub narrow : IsNarrow c
  pub kept : All IsKept c.rows
  pub rising : HasRisingRows (meaning_of c)
  pub nums : RowsAreNum (meaning_of c)
  pub well : state.IsWellFormed (meaning_of c)
  pub over : AreOver is_short is_ordinary (meaning_of c)
  pub named : EquationsHaveNames is_short (meaning_of c)

-- The source of a clause: its variables are numbered as they are first met in its printed text.
use Rattle.clp_model.specs.Clauses.{Clause}
use Rattle.clause_model.specs.Variables.{variables_as_printed}
use Rattle.clause_model.specs.Canonical.{numbered_by}

unfoldable pub source_of : Clause → Clause
source_of c = numbered_by (variables_as_printed c) c

use Rattle.grammar_laws.proofs.Rows.{rows_kept, rows_have_the_variables}
use Rattle.grammar_laws.proofs.rows_are_kept.Goals as goal

pub returns-clause-kept : goal.returns-clause-kept
returns-clause-kept c = rows_kept

pub returns-clause-variables : goal.returns-clause-variables
returns-clause-variables c = rows_have_the_variables

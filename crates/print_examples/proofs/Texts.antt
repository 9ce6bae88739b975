-- The examples compute.
use Rattle.std.specs.Fmt.{digits}
use Rattle.print_model.specs.Names.{predicate_text}
use Rattle.print_model.specs.Rows.{row_text}
use Rattle.print_model.specs.Clauses.{clause_text}
use Rattle.print_model.proofs.Applications.{texts_app, texts_var, atom_app}
use Rattle.print_examples.specs.Printed.{AFact, Lists, ListNamesAsPredicates, QuotedNames, RowsAndNums, NumsAlone, ConstantRow}

pub a_fact : AFact
unfolding clause_text predicate_text row_text digits
a_fact = simp (atom_app, texts_app, texts_var)

pub lists : Lists
unfolding clause_text predicate_text row_text digits
lists = simp (atom_app, texts_app, texts_var)

pub list_names : ListNamesAsPredicates
unfolding clause_text predicate_text row_text digits
list_names = simp (atom_app, texts_app, texts_var)

pub quoted_names : QuotedNames
unfolding clause_text predicate_text row_text digits
quoted_names = simp (atom_app, texts_app, texts_var)

pub rows_and_nums : RowsAndNums
unfolding clause_text predicate_text row_text digits
rows_and_nums = simp (atom_app, texts_app, texts_var)

pub nums_alone : NumsAlone
unfolding clause_text predicate_text row_text digits
nums_alone = simp (atom_app, texts_app, texts_var)

pub constant_row : ConstantRow
unfolding clause_text predicate_text row_text digits
constant_row = simp (atom_app, texts_app, texts_var)

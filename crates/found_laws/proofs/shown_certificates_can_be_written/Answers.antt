use Rattle.found_laws.proofs.Shown.{found_row, found_falsehood, shown_row, shown_falsehood}
use Rattle.found_laws.proofs.ShownAll.{shown_rows}
use Rattle.found_laws.proofs.shown_certificates_can_be_written.Goals as goal

pub returns-clause-found : goal.returns-clause-found
returns-clause-found c = found_row

pub returns-clause-found_false : goal.returns-clause-found_false
returns-clause-found_false c = found_falsehood

pub returns-clause-shown : goal.returns-clause-shown
returns-clause-shown c = shown_row

pub returns-clause-shown_false : goal.returns-clause-shown_false
returns-clause-shown_false c = shown_falsehood

pub returns-clause-shown_rows : goal.returns-clause-shown_rows
returns-clause-shown_rows c = shown_rows

use Rattle.found_laws.proofs.Shown.{given_row, given_falsehood}
use Rattle.found_laws.proofs.ShownAll.{given_rows}
use Rattle.found_laws.proofs.given_certificates_stay.Goals as goal

pub returns-clause-shown : goal.returns-clause-shown
returns-clause-shown c = given_row

pub returns-clause-shown_false : goal.returns-clause-shown_false
returns-clause-shown_false c = given_falsehood

pub returns-clause-shown_rows : goal.returns-clause-shown_rows
returns-clause-shown_rows c = given_rows

use Rattle.std.proofs.Common.{rules}
use Rattle.clause_meaning.specs.Numbers.{number_of}
use Rattle.clause_meaning.proofs.Sides.{gives_row, first_fails, second_fails}
use Rattle.clause_meaning.proofs.rows.row_of.Goals as goal

pub returns-in_err-first : goal.returns-in_err-first
returns-in_err-first c = search (rules, first_fails (number_of c.args.numbers.now) c.args.c.now _ c.in_err-first.ensures)

pub returns-in_err-second : goal.returns-in_err-second
returns-in_err-second c = search (rules, second_fails (number_of c.args.numbers.now) c.args.c.now _ _ c.in_ok-first.ensures c.in_err-second.ensures)

pub returns : goal.returns
returns c = gives_row (number_of c.args.numbers.now) c.args.c.now _ _ _ c.in_ok-first.ensures c.in_ok-second.ensures (c.placed.ensures _ c.row_by.ensures)

use Rattle.std.proofs.Common.{rules}
use Rattle.clause_meaning.proofs.Flattening.{flattened_fails}
use Rattle.clause_meaning.proofs.terms.flattened.Goals as goal

pub returns-in_err-row : goal.returns-in_err-row
returns-in_err-row c = search (
  rules,
  flattened_fails c.args.begin c.args.e.now c.args.known.now c.meet_all.new.known c.in_ok-variable.variable c.numbers.result.now c.in_err-row.field-0.0
      c.in_ok-meet_all.ensures c.in_ok-variable.ensures c.numbers.ensures c.in_err-row.ensures,
)

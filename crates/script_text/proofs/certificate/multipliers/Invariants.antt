use Rattle.std.proofs.Common.{◌≡◌, ◌-◌, [], true}
use Rattle.token_model.specs.Remaining as token
use Rattle.linear_model.specs.Chain.{weights_within}
use Rattle.script_grammar.specs.Certificates.{multipliers_from}
use Rattle.script_text.proofs.certificate.multipliers.Given as goal

abbrev pub invariant-loop-turn : goal.invariant-loop-turn
invariant-loop-turn l = record {
  value : multipliers_from (token.left l.fn.reader.remaining) [] l.fn.reader.remaining ≡ multipliers_from (l._turn-end - l._turn) l.found l.reader.remaining;
  within : weights_within l.found ≡ true;
}

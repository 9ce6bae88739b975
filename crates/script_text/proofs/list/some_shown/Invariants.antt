use Rattle.std.proofs.Common.{◌≡◌, ◌-◌, []}
use Rattle.token_model.specs.Remaining as token
use Rattle.script_grammar.specs.Fields.{listed_from}
use Rattle.script_grammar.specs.Certificates.{shown}
use Rattle.script_text.proofs.list.some_shown.Given as goal

abbrev pub invariant-loop-turn : goal.invariant-loop-turn
invariant-loop-turn l = listed_from shown (token.left l.fn.reader.remaining) [] l.fn.reader.remaining ≡ listed_from shown (l._turn-end - l._turn) l.found l.reader.remaining

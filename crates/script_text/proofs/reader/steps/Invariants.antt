use Rattle.std.proofs.Common.{◌≡◌, ◌-◌, []}
use Rattle.script_grammar.specs.Script.{steps_from}
use Rattle.script_text.proofs.reader.steps.Given as goal

abbrev pub invariant-loop-turn : goal.invariant-loop-turn
invariant-loop-turn l = steps_from l.fn.count [] l.fn.reader.remaining ≡ steps_from (l.fn.count - l._turn) l.found l.reader.remaining

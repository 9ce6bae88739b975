use Rattle.std.proofs.Common.{◌≡◌, ◌-◌}
use Rattle.clp_grammar.specs.Input.{separated, separated_from}
use Rattle.clp_grammar.specs.Goals.{constrained}
use Rattle.clp_parser.proofs.goals.constraints.Given as goal

abbrev pub invariant-loop-turn : goal.invariant-loop-turn
invariant-loop-turn l = separated constrained l.fn.reader ≡ separated_from constrained (l._turn-end - l._turn) l.found l.reader

use Rattle.std.proofs.Common.{◌≡◌, ◌-◌}
use Rattle.clp_grammar.specs.Input.{separated, separated_from}
use Rattle.clp_grammar.specs.Goals.{one_goal}
use Rattle.clp_parser.proofs.goals.goals.Given as goal

abbrev pub invariant-loop-turn : goal.invariant-loop-turn
invariant-loop-turn l = separated one_goal l.fn.reader ≡ separated_from one_goal (l._turn-end - l._turn) l.found l.reader

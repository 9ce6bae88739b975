use Rattle.std.proofs.Common.{◌≡◌, ◌-◌, []}
use Rattle.token_model.specs.Remaining.{left}
use Rattle.clp_grammar.specs.Grammar.{clauses_from}
use Rattle.clp_reader.proofs.clauses.clauses.Given as goal

abbrev pub invariant-loop-turn : goal.invariant-loop-turn
invariant-loop-turn l = clauses_from (left l.fn.reader.remaining) [] l.fn.reader.remaining ≡ clauses_from (l._turn-end - l._turn) l.found l.reader.remaining

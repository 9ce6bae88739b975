use Rattle.std.proofs.Common.{◌≡◌, ◌-◌, ◌≤◌}
use Rattle.clp_grammar.specs.Directives.{directive, directive_from}
use Rattle.clp_parser.proofs.directives.directive.Given as goal

abbrev pub invariant-loop-turn : goal.invariant-loop-turn
invariant-loop-turn l = record {
  reads : directive l.fn.reader.remaining ≡ directive_from (l._turn-end - l._turn) l.open_now l.reader.remaining;
  few : l.open_now ≤ 256;
  names : l.reader.names ≡ l.fn.reader.names;
}

use Rattle.std.proofs.Common.{◌-◌, ◌+◌, ◌∙◌, Ok, ap}
use Rattle.clp_grammar.specs.Directives.{directive_from}
use Rattle.clp_parser.specs.Roles.{goes_on}
use Rattle.clp_parser.proofs.Turns.{one_more}
use Rattle.clp_parser.proofs.directives.directive.Goals as goal

pub loop-turn-preserved : goal.loop-turn-preserved
loop-turn-preserved c =
    let turns = c.left-turn-end.result - (c.loop-turn._turn + 1) in
    let e = one_more (λ n. directive_from n c.loop-turn.open_now c.loop-turn.reader.remaining) _ c.loop-turn._turn c.loop-turn-test.true c.loop-turn.invariant.reads in
    let few = rw c.in-Some.is at c.in_ok-now.ensures.few in
    record {
      reads = e ∙ c.in_ok-now.ensures.text turns ∙ ap (λ o. goes_on turns (Ok o) c.pass_token.new.reader.remaining) c.in-Some.is;
      few = few;
      names = c.pass_token.ensures.names ∙ c.loop-turn.invariant.names;
    }

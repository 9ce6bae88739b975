use Rattle.std.proofs.Common.{rules, arith}
use Rattle.std.proofs.lemmas.Grind.{common_steps}
use Rattle.clp_parser.proofs.Turns.{one_more}
use Rattle.script_grammar.specs.Fields.{listed_from}
use Rattle.script_grammar.specs.Certificates.{shown}
use Rattle.script_text.proofs.list.some_shown.Goals as goal

pub loop-turn-preserved : goal.loop-turn-preserved
unfolding listed_from
loop-turn-preserved c =
    let e = one_more (λ n. listed_from shown n c.loop-turn.found c.loop-turn.reader.remaining) _ c.loop-turn._turn c.loop-turn-test.true c.loop-turn.invariant in
    first_of (search rules, grind (arith, common_steps))

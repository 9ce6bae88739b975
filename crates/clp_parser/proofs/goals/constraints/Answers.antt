use Rattle.std.proofs.Common.{rules, arith}
use Rattle.std.proofs.lemmas.Grind.{common_steps}
use Rattle.clp_grammar.specs.Input.{separated, separated_from, eat}
use Rattle.clp_grammar.specs.Goals.{constrained}
use Rattle.clp_parser.proofs.Turns.{one_more}
use Rattle.clp_parser.proofs.goals.constraints.Goals as goal

pub loop-turn-preserved : goal.loop-turn-preserved
unfolding separated separated_from eat
loop-turn-preserved c =
    let e = one_more (λ n. separated_from constrained n c.loop-turn.found c.loop-turn.reader) _ c.loop-turn._turn c.loop-turn-test.true c.loop-turn.invariant in
    first_of (search rules, grind (arith, common_steps))

use Rattle.std.proofs.Common.{rules, arith, ap, ◌∙◌}
use Rattle.std.proofs.lemmas.Grind.{common_steps}
use Rattle.linear_model.specs.Chain.{weights_within}
use Rattle.clp_parser.proofs.Turns.{one_more}
use Rattle.script_grammar.specs.Certificates.{multipliers_from}
use Rattle.script_text.proofs.Weights.{one_more_within}
use Rattle.script_text.proofs.certificate.multipliers.Goals as goal

pub returns-then-not-eat-clause-within : goal.returns-then-not-eat-clause-within
returns-then-not-eat-clause-within c =
    ap weights_within c.in_ok-push.ensures.ok
    ∙ one_more_within c.loop-turn.found c.in_ok-number.number c.loop-turn.invariant.within c.in_ok-number.ensures.within

pub loop-turn-preserved : goal.loop-turn-preserved
unfolding multipliers_from
loop-turn-preserved c =
    let e = one_more (λ n. multipliers_from n c.loop-turn.found c.loop-turn.reader.remaining) _ c.loop-turn._turn c.loop-turn-test.true c.loop-turn.invariant.value in
    record {
      value = first_of (search rules, grind (arith, common_steps));
      within = ap weights_within c.in_ok-push.ensures.ok
          ∙ one_more_within c.loop-turn.found c.in_ok-number.number c.loop-turn.invariant.within c.in_ok-number.ensures.within;
    }

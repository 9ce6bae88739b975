use Rattle.std.proofs.Common.{◌∙◌, ◌++◌, ◌∷◌, [], length, length-append, ◌+◌, ap, sym, rules, arith, Ok}
use Rattle.std.proofs.lemmas.Grind.{common_steps}
use Rattle.token_model.specs.declared.token.Lexeme.TheVariants as l
use Rattle.clp_grammar.specs.Input.{separated, separated_from, eat}
use Rattle.clp_grammar.specs.Expressions as spec
use Rattle.clp_parser.specs.Levels as level
use Rattle.clp_parser.proofs.Turns.{one_more}
use Rattle.clp_parser.proofs.Steps.{turn, list_not_empty, further_element}
use Rattle.clp_parser.proofs.expressions.+expression.Goals as goal

pub expressions-loop-turn-preserved : goal.expressions-loop-turn-preserved
unfolding separated separated_from eat
expressions-loop-turn-preserved t c =
    let e = one_more (λ n. separated_from (spec.expression c.args.more) n c.loop-turn.found c.loop-turn.reader) _ c.loop-turn._turn c.loop-turn-test.true c.loop-turn.invariant in
    first_of (search rules, grind (arith, common_steps))

pub expression-loop-turn-preserved : goal.expression-loop-turn-preserved
expression-loop-turn-preserved t c =
    let parts = c.in_ok-push-2.ensures.ok ∙ ap (λ x. c.loop-turn.parts ++ x ∷ []) c.replace.ensures.value in
    record {
      reads = turn spec.sum_operation (level.product c.args.more) _ c.loop-turn._turn _ c.loop-turn.operators _ c.loop-turn.parts _ c.loop-turn.last _ c.loop-turn.reader _ c.in-Some.operation c.left.result c.in_ok-part.part
          c.loop-turn-test.true c.loop-turn.invariant.reads (ap spec.sum_operation (sym c.peek.ensures) ∙ sym c.in-Some.ensures.value) c.left.ensures (ap (level.product c.args.more) (sym c.pass.ensures) ∙ c.in_ok-part.ensures) c.in_ok-push.ensures.ok parts c.replace.ensures.after;
      paired = ap length c.in_ok-push.ensures.ok ∙ length-append c.loop-turn.operators _ ∙ ap (λ n. n + 1) c.loop-turn.invariant.paired ∙ sym (ap length parts ∙ length-append c.loop-turn.parts _);
    }

pub product-loop-turn-preserved : goal.product-loop-turn-preserved
product-loop-turn-preserved t c =
    let parts = c.in_ok-push-2.ensures.ok ∙ ap (λ x. c.loop-turn.parts ++ x ∷ []) c.replace.ensures.value in
    record {
      reads = turn spec.product_operation (level.signed c.args.more) _ c.loop-turn._turn _ c.loop-turn.operators _ c.loop-turn.parts _ c.loop-turn.last _ c.loop-turn.reader _ c.in-Some.operation c.left.result c.in_ok-part.part
          c.loop-turn-test.true c.loop-turn.invariant.reads (ap spec.product_operation (sym c.peek.ensures) ∙ sym c.in-Some.ensures.value) c.left.ensures (ap (level.signed c.args.more) (sym c.pass.ensures) ∙ c.in_ok-part.ensures) c.in_ok-push.ensures.ok parts c.replace.ensures.after;
      paired = ap length c.in_ok-push.ensures.ok ∙ length-append c.loop-turn.operators _ ∙ ap (λ n. n + 1) c.loop-turn.invariant.paired ∙ sym (ap length parts ∙ length-append c.loop-turn.parts _);
    }

pub list-returns-else-eat : goal.list-returns-else-eat
list-returns-else-eat t c =
    let more = c.args.more in
    let e = list_not_empty more c.args.reader.now c.eat.new.self c.if-more-eq0.false (ap (eat l.CloseSquare) (sym c.pass.ensures) ∙ c.eat.ensures ∙ ap (λ b. Ok (b, c.eat.new.self)) c.if-eat.false) in
    grind (arith, common_steps)

pub after_comma-returns : goal.after_comma-returns
after_comma-returns t c =
    let e = further_element c.args.more c.args.left c.args.found c.args.reader.now c.if-more-eq0.false in
    grind (arith, common_steps)

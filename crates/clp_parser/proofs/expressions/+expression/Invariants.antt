use Rattle.std.proofs.Common.{◌≡◌, ◌-◌, ◌+◌, ◌*◌, [], ◌∷◌, ◌++◌, length}
use Rattle.clp_grammar.specs.Input.{separated, separated_from}
use Rattle.clp_grammar.specs.Expressions as spec
use Rattle.clp_parser.specs.Levels as level
use Rattle.clp_parser.proofs.expressions.+expression.Given as goal

abbrev pub decreases-arguments : goal.decreases-arguments
decreases-arguments l = 9 * l.more

abbrev pub decreases-bracketed : goal.decreases-bracketed
decreases-bracketed l = 9 * l.more

abbrev pub decreases-list : goal.decreases-list
decreases-list l = 9 * l.more

abbrev pub decreases-after_comma : goal.decreases-after_comma
decreases-after_comma l = 9 * l.more

abbrev pub decreases-application : goal.decreases-application
decreases-application l = 9 * l.more + 1

abbrev pub decreases-primary : goal.decreases-primary
decreases-primary l = 9 * l.more + 2

abbrev pub decreases-behind_sign : goal.decreases-behind_sign
decreases-behind_sign l = 9 * l.more + 3

abbrev pub decreases-signed : goal.decreases-signed
decreases-signed l = 9 * l.more + 4

abbrev pub decreases-product : goal.decreases-product
decreases-product l = 9 * l.more + 5

abbrev pub decreases-expression : goal.decreases-expression
decreases-expression l = 9 * l.more + 6

abbrev pub decreases-expressions : goal.decreases-expressions
decreases-expressions l = 9 * l.more + 7

abbrev pub decreases-elements : goal.decreases-elements
decreases-elements l = 9 * l.more + 8

abbrev pub decreases-after_bar : goal.decreases-after_bar
decreases-after_bar l = 9 * l.more + 7

abbrev pub invariant-expressions-loop-turn : goal.invariant-expressions-loop-turn
invariant-expressions-loop-turn l = separated (spec.expression l.more) l.fn.reader ≡ separated_from (spec.expression l.more) (l._turn-end - l._turn) l.found l.reader

abbrev pub invariant-expression-loop-turn : goal.invariant-expression-loop-turn
invariant-expression-loop-turn l = record {
  reads : spec.expression l.more l.fn.reader ≡ spec.chain_from spec.sum_operation (level.product l.more) (l._turn-end - l._turn) l.left l.operators (l.parts ++ l.last ∷ []) l.reader;
  paired : length l.operators ≡ length l.parts;
}

abbrev pub invariant-product-loop-turn : goal.invariant-product-loop-turn
invariant-product-loop-turn l = record {
  reads : level.product l.more l.fn.reader ≡ spec.chain_from spec.product_operation (level.signed l.more) (l._turn-end - l._turn) l.left l.operators (l.parts ++ l.last ∷ []) l.reader;
  paired : length l.operators ≡ length l.parts;
}

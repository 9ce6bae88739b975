use Rattle.std.proofs.Common.{arith}
use Rattle.substitution.proofs.Weighed.{item_in}
use Rattle.clause_fold.proofs.ImageRows.{numbers_more, numbers_end, count_is, are_numbers}
use Rattle.clause_fold.proofs.rows.image_numbers.Goals as goal

pub number_in-requires : goal.number_in-requires
number_in-requires c = item_in c.args.scratch.now c.args.images.now c.loop-term.term-index c.term-item.result (omega arith) c.term-item.is c.requires

pub loop-term-preserved : goal.loop-term-preserved
loop-term-preserved c =
    numbers_more c.args.scratch.now c.args.images.now c.loop-term.numbers c.push.new.self c.loop-term.term-index c.term-item.result c.number_in.result (omega arith) c.term-item.is c.number_in.ensures
    c.in_ok-push.ensures.ok c.loop-term.invariant

pub returns-clause-count : goal.returns-clause-count
returns-clause-count c = count_is c.args.scratch.now c.args.images.now c.loop-term.numbers (numbers_end c.args.scratch.now c.args.images.now c.loop-term.numbers c.loop-term.term-index c.loop-term-test.false c.loop-term.invariant)

pub returns-clause-are : goal.returns-clause-are
returns-clause-are c = λ s b. are_numbers c.args.scratch.now c.args.images.now c.loop-term.numbers s (numbers_end c.args.scratch.now c.args.images.now c.loop-term.numbers c.loop-term.term-index c.loop-term-test.false c.loop-term.invariant) b

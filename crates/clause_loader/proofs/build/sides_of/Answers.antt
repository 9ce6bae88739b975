use Rattle.std.proofs.Common.{arith}
use Rattle.std.proofs.lemmas.Result.{err_from_is_err_and}
use Rattle.term_store.proofs.Keeping.{keeps_trans}
use Rattle.clause_loader.proofs.Sides.{large_left, large_right, sides_more, small_more}
use Rattle.clause_loader.proofs.build.sides_of.Goals as goal

pub returns-in_err-left-clause-large : goal.returns-in_err-left-clause-large
returns-in_err-left-clause-large c = λ h.
    let p = err_from_is_err_and c.from_residual.result c.from_residual.ensures.1 in
    let made = p.1 in
    let same = p.2 in
    large_left c.args.equations.now c.loop-equation.equation-index c.equation-item.result (omega arith) c.equation-item.is (c.in_err-left.ensures.large cc)

pub returns-in_err-right-clause-large : goal.returns-in_err-right-clause-large
returns-in_err-right-clause-large c = λ h.
    let p = err_from_is_err_and c.from_residual-in_err-right.result c.from_residual-in_err-right.ensures.1 in
    let made = p.1 in
    let same = p.2 in
    large_right c.args.equations.now c.loop-equation.equation-index c.equation-item.result (omega arith) c.equation-item.is (c.in_err-right.ensures.large cc)

pub loop-equation-preserved : goal.loop-equation-preserved
loop-equation-preserved c =
    let mid = c.side_of.new.store in
    let new = c.side_of-in-loop-equation.new.store in
    record {
      keeps = keeps_trans c.args.store.now mid new (keeps_trans c.args.store.now c.loop-equation.store mid c.loop-equation.invariant.keeps c.side_of.ensures.keeps) c.side_of-in-loop-equation.ensures.keeps;
      made = sides_more c.args.sorts.now c.loop-equation.store mid new c.args.equations.now c.loop-equation.equation-index c.equation-item.result c.loop-equation.pairs.items c.push.new.self.items c.in_ok-left.left c.in_ok-right.right
          c.loop-equation.invariant.made c.side_of.ensures.keeps c.side_of-in-loop-equation.ensures.keeps (omega arith) c.equation-item.is c.in_ok-left.ensures.made c.in_ok-right.ensures.made c.in_ok-push.ensures.items;
      small = small_more c.args.equations.now c.loop-equation.equation-index c.equation-item.result (omega arith) c.equation-item.is c.loop-equation.invariant.small c.in_ok-left.ensures.small c.in_ok-right.ensures.small;
    }

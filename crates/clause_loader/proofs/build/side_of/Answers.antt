use Rattle.std.proofs.Common.{arith}
use Rattle.std.proofs.lemmas.Result.{err_from_is_err_and}
use Rattle.clause_loader.proofs.Sides.{measured, over_large}
use Rattle.clause_loader.proofs.build.side_of.Goals as goal

pub returns-in_err-term-clause-large : goal.returns-in_err-term-clause-large
returns-in_err-term-clause-large c = λ h.
    let p = err_from_is_err_and c.from_residual.result c.from_residual.ensures.1 in
    let made = p.1 in
    let same = p.2 in
    over_large c.args.tree.now (c.in_err-term.ensures.large cc)

pub returns-clause-small : goal.returns-clause-small
returns-clause-small c =
    measured c.args.sorts.now c.args.tree.now _ c.in_ok-term.ensures.made.is
    (let a = c.size-size.ensures.value in let b = c.size-size.ensures.small in omega arith)
    (let a = c.depth-depth.ensures.value in let b = c.depth-depth.ensures.small in omega arith)

use Rattle.std.proofs.Common.{rules, pos, get_or, ◌∙◌, FitsSigned, w64, arith}
use Rattle.std.proofs.lemmas.Int.{to_z-of_z}
use Rattle.lin_row.proofs.Coefficients.{found_here, found_past}
use Rattle.lin_row.proofs.truth.coefficient_in.Goals as goal

pub returns-then-p-variable : goal.returns-then-p-variable
returns-then-p-variable c =
    let k = c.loop-p.invariant in
    let e = found_here c.args.pairs.now c.loop-p.p-index c.args.variable _ c.loop-p-test.true k.rising k.same (omega arith) in
    let f : FitsSigned w64 (get_or c.args.pairs.now c.loop-p.p-index (0, pos 0)).1 = search rules in
    to_z-of_z w64 (get_or c.args.pairs.now c.loop-p.p-index (0, pos 0)).1 f ∙ e

pub returns-then-variable-p : goal.returns-then-variable-p
returns-then-variable-p c =
    let k = c.loop-p.invariant in
    found_past c.args.pairs.now c.loop-p.p-index c.args.variable _ c.loop-p-test.true k.rising k.same (omega arith)

use Rattle.std.proofs.Common.{rules, FitsSigned, w64, of_z, ◌≢◌, pos, ap}
use Rattle.std.proofs.lemmas.Int.{to_z-of_z}
use Rattle.std.proofs.lemmas.Result.{err_from_is_err_and, on_ok_weaker}
use Rattle.elim_rows.proofs.Making.{substituted_is, outside_one, adds_made}
use Rattle.elim_rows.proofs.equation.substitute.Goals as goal

pub returns-in_err-made-clause-overflow : goal.returns-in_err-made-clause-overflow
returns-in_err-made-clause-overflow c = λ h.
    let p = err_from_is_err_and c.from_residual.result c.from_residual.ensures.1 in
    let made = p.1 in
    let same = p.2 in
    let fr : FitsSigned w64 c.coefficient_of-coefficient.result = search rules in
    let fe : FitsSigned w64 c.coefficient_of-pivot.result = search rules in
    let f0 : FitsSigned w64 c.factors-of_equation.result.0 = search rules in
    let f1 : FitsSigned w64 c.factors-of_equation.result.1 = search rules in
    let fo : FitsSigned w64 c.opposed-signed.result = search rules in
    let n : c.coefficient_of-coefficient.result ≢ pos 0 = λ e. c.if-coefficient-eq0.false (ap (of_z w64) e) in
    outside_one _ _
    (substituted_is c.args.var c.args.equation.now c.args.row.now c.rel.result c.coefficient_of-pivot.result c.coefficient_of-coefficient.result c.factors-of_equation.result.1 c.opposed-signed.result c.factors-of_equation.result.0
    c.rel.ensures.value c.coefficient_of-pivot.ensures.value c.coefficient_of-coefficient.ensures.value n
    (simp to_z-of_z at c.factors-of_equation.ensures.second) (simp to_z-of_z at c.factors-of_equation.ensures.first) (simp to_z-of_z at c.opposed-signed.ensures.value))
    (simp to_z-of_z at (c.in_err-made.ensures.overflow cc))

pub returns-clause-value : goal.returns-clause-value
returns-clause-value c =
    let fr : FitsSigned w64 c.coefficient_of-coefficient.result = search rules in
    let fe : FitsSigned w64 c.coefficient_of-pivot.result = search rules in
    let f0 : FitsSigned w64 c.factors-of_equation.result.0 = search rules in
    let f1 : FitsSigned w64 c.factors-of_equation.result.1 = search rules in
    let fo : FitsSigned w64 c.opposed-signed.result = search rules in
    let n : c.coefficient_of-coefficient.result ≢ pos 0 = λ e. c.if-coefficient-eq0.false (ap (of_z w64) e) in
    let by =
    substituted_is c.args.var c.args.equation.now c.args.row.now c.rel.result c.coefficient_of-pivot.result c.coefficient_of-coefficient.result c.factors-of_equation.result.1 c.opposed-signed.result c.factors-of_equation.result.0
    c.rel.ensures.value c.coefficient_of-pivot.ensures.value c.coefficient_of-coefficient.ensures.value n
    (simp to_z-of_z at c.factors-of_equation.ensures.second) (simp to_z-of_z at c.factors-of_equation.ensures.first) (simp to_z-of_z at c.opposed-signed.ensures.value) in
    on_ok_weaker c.add.result (λ h. adds_made c.args.kept.now c.add.new.self _ _ c.in_ok-made.made by (simp to_z-of_z at c.in_ok-made.ensures.value) c.in_ok-made.ensures.kept.within h) c.add.ensures.value

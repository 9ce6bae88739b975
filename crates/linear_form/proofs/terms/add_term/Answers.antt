use Rattle.std.proofs.Common.{nat_eq, ◌∙◌, ap}
use Rattle.std.proofs.lemmas.Result.{err_from_is_err_and}
use Rattle.std.specs.Map.{lookup}
use Rattle.form_model.specs.Forms.{are_small}
use Rattle.linear_form.specs.Terms.{sum_with}
use Rattle.linear_form.proofs.Smallness.{ok_is, err_is, as_fault}
use Rattle.linear_form.proofs.Changes.{inserted, with_term_small, large_sum}
use Rattle.linear_form.proofs.terms.add_term.Goals as goal

pub returns-in_err-sum-clause-fault : goal.returns-in_err-sum-clause-fault
returns-in_err-sum-clause-fault c = λ f h.
    let a = c.args in
    let e = err_is c.in_err-sum.field-0.0 (sum_with (lookup (nat_eq a.variable) a.terms.now.entries) a.coefficient) c.in_err-sum.ensures.value in
    let p = err_from_is_err_and c.from_residual.result c.from_residual.ensures.1 in
    (as_fault c.from_residual.result f c.in_err-sum.field-0.0 p.0 p.1 p.2 e.0 h, large_sum a.variable a.coefficient a.terms.now.entries e.1)

pub returns-clause-value : goal.returns-clause-value
returns-clause-value c =
    let a = c.args in
    let e = ok_is c.in_ok-sum.sum (sum_with (lookup (nat_eq a.variable) a.terms.now.entries) a.coefficient) c.in_ok-sum.ensures.value in
    c.in_ok-insert.ensures.entries ∙ inserted a.variable a.coefficient c.in_ok-sum.sum a.terms.now.entries e.0

pub returns-clause-small : goal.returns-clause-small
returns-clause-small c = λ h.
    let a = c.args in
    let e = ok_is c.in_ok-sum.sum (sum_with (lookup (nat_eq a.variable) a.terms.now.entries) a.coefficient) c.in_ok-sum.ensures.value in
    ap are_small (c.in_ok-insert.ensures.entries ∙ inserted a.variable a.coefficient c.in_ok-sum.sum a.terms.now.entries e.0)
    ∙ with_term_small a.variable a.coefficient a.terms.now.entries e.1 h

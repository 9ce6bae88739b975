use Rattle.std.proofs.Common.{sym, ◌∙◌, ap, subst, ◌<◌, ◌*◌, ◌/◌, ℕ}
use Rattle.std.specs.Prelude.{Err}
use Rattle.std.proofs.lemmas.Result.{err_from_is_err_and}
use Rattle.linear_model.specs.Normal.{limit}
use Rattle.form_model.specs.Forms.{form, joint_den, row_of}
use Rattle.form_model.specs.declared.fault.FormFault.TheVariants.{TooLarge}
use Rattle.linear_form.specs.Ranges.{AreBounded}
use Rattle.linear_form.proofs.Smallness.{fault_same}
use Rattle.linear_form.proofs.Ranges.{common_refused, constant_refused, terms_refused}
use Rattle.linear_form.proofs.form.LinearForm.cleared.Goals as goal

pub returns-in-None-clause-fault : goal.returns-in-None-clause-fault
returns-in-None-clause-fault c = λ e rel h.
    let i = c.self.inside in
    let n = c.in-None.ensures in
    let past = subst (λ d. limit * limit < joint_den d i.terms.entries) c.den.ensures.value n.none in
    ap (row_of rel) (sym c.self.view_is)
    ∙ (common_refused rel (form i.constant i.terms.entries) c.self.invariant n.distinct past ∙ ap Err (fault_same TooLarge e h))

pub returns-in-None-cleared-clause-fault : goal.returns-in-None-cleared-clause-fault
returns-in-None-cleared-clause-fault c = λ e rel h.
    let i = c.self.inside in
    let n = c.in-None-cleared.ensures.none in
    let common = c.in-Some.ensures.some.0 ∙ ap (λ d. joint_den d i.terms.entries) c.den.ensures.value in
    let past = subst (λ (l : ℕ). limit < l / i.constant.den) common n.1 in
    ap (row_of rel) (sym c.self.view_is)
    ∙ (constant_refused rel (form i.constant i.terms.entries) c.self.invariant c.in-Some.ensures.distinct n.0 past ∙ ap Err (fault_same TooLarge e h))

pub returns-in_err-pairs-clause-fault : goal.returns-in_err-pairs-clause-fault
returns-in_err-pairs-clause-fault c = λ e rel h.
    let i = c.self.inside in
    let p = err_from_is_err_and c.from_residual.result c.from_residual.ensures.1 in
    let made = p.1 in
    let same = p.2 in
    let n = c.in_err-pairs.ensures.fault e cc in
    let common = c.in-Some.ensures.some.0 ∙ ap (λ d. joint_den d i.terms.entries) c.den.ensures.value in
    ap (row_of rel) (sym c.self.view_is)
    ∙ (terms_refused rel (form i.constant i.terms.entries) c.self.invariant c.in-Some.ensures.distinct (λ b. n.1 (subst (λ (l : ℕ). AreBounded l i.terms.entries) (sym common) b))
    ∙ ap Err (sym n.0))

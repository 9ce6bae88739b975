use Rattle.form_model.specs.Forms.{form}
use Rattle.linear_form.proofs.Kept.{opposite_kept}
use Rattle.linear_form.proofs.form.LinearForm.negated.Goals as goal

pub invariant_of-result : goal.invariant_of-result
invariant_of-result c =
    let f = c.self.inside in
    opposite_kept (form f.constant f.terms.entries) c.negated.result c.negate_all.new.terms.entries c.self.invariant c.negated.ensures.value c.negate_all.ensures.value

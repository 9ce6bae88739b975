use Rattle.form_model.specs.Forms.{form}
use Rattle.linear_form.proofs.Kept.{product_kept}
use Rattle.linear_form.proofs.form.LinearForm.multiplied.Goals as goal

pub invariant_of-result : goal.invariant_of-result
invariant_of-result c =
    let f = c.self.inside in
    product_kept (form f.constant f.terms.entries) c.args.factor c.in_ok-constant.constant c.multiply_all.new.terms.entries
    c.self.invariant c.requires.lowest c.in_ok-constant.ensures.value c.in_ok-multiply_all.ensures.small c.in_ok-multiply_all.ensures.value

use Rattle.form_model.specs.Forms.{form}
use Rattle.linear_form.proofs.Kept.{sum_kept}
use Rattle.linear_form.proofs.form.LinearForm.add.Goals as goal

pub invariant_of-result : goal.invariant_of-result
invariant_of-result c =
    let f = c.self.inside in
    let g = c.other.inside in
    sum_kept (form f.constant f.terms.entries) (form g.constant g.terms.entries) c.in_ok-constant.constant c.add_all.new.terms.entries
    c.self.invariant c.other.invariant c.in_ok-constant.ensures.value c.in_ok-add_all.ensures.small c.in_ok-add_all.ensures.value

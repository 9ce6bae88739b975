use Rattle.std.proofs.Common.{sym, ◌∙◌, ap, subst, ◌≤◌}
use Rattle.std.specs.Prelude.{unsigned_abs}
use Rattle.linear_model.specs.Normal.{limit}
use Rattle.linear_model.specs.Forms.{coefficient}
use Rattle.farkas_check.proofs.Found.{coefficient_small}
use Rattle.farkas_check.proofs.Sums.{same_64}
use Rattle.farkas_check.proofs.sum.row_coefficient.Goals as goal

pub returns-clause-small : goal.returns-clause-small
returns-clause-small c =
    let a = coefficient_small c.args.row.now.pairs c.args.variable c.pairs.ensures.kept.normal.rising c.pairs.ensures.small in
    let e = c.coefficient.ensures.value ∙ ap (λ ps. coefficient ps c.args.variable) c.pairs.ensures.value in
    let b = subst (λ z. unsigned_abs z ≤ limit) (sym e) a in
    subst (λ z. unsigned_abs z ≤ limit) (sym (same_64 c.coefficient.result b)) b

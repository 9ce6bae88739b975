use Rattle.std.proofs.Common.{sym, ◌∙◌, ap, subst, nat_eq}
use Rattle.std.specs.List.{IsDistinct}
use Rattle.std.specs.Map.{keys_of}
use Rattle.std.proofs.lemmas.Result.{err_from_is_err_and}
use Rattle.form_model.specs.Forms.{common_den}
use Rattle.linear_form.proofs.Clearing.{same_keys}
use Rattle.linear_form.proofs.form.LinearForm.into_row.Goals as goal

pub returns-in_err-pairs-clause-fault : goal.returns-in_err-pairs-clause-fault
returns-in_err-pairs-clause-fault c = λ e h.
    let p = err_from_is_err_and c.from_residual.result c.from_residual.ensures.1 in
    let made = p.1 in
    let same = p.2 in
    c.in_err-pairs.ensures.fault e c.args.rel cc

pub row_of_pairs-requires : goal.row_of_pairs-requires
row_of_pairs-requires c =
    let n = c.in_ok-pairs.ensures in
    record { distinct = subst (IsDistinct nat_eq) (sym (ap keys_of n.pairs ∙ same_keys (common_den c.args.self) c.args.self.terms)) n.distinct }

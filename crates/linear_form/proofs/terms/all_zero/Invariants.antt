use Rattle.std.proofs.Common.{◌≡◌, drop}
use Rattle.form_model.specs.Forms.{all_zero}
use Rattle.linear_form.proofs.terms.all_zero.Given as goal

abbrev pub invariant-loop-i : goal.invariant-loop-i
invariant-loop-i l = all_zero (drop l.i l.terms.entries) ≡ all_zero l.terms.entries

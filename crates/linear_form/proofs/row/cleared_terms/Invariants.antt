use Rattle.std.proofs.Common.{◌≡◌, ◌++◌, drop}
use Rattle.form_model.specs.Forms as spec
use Rattle.linear_form.proofs.row.cleared_terms.Given as goal

abbrev pub invariant-loop-i : goal.invariant-loop-i
invariant-loop-i l = l.pairs.items ++ spec.cleared_terms l.fn.common (drop l.i l.terms.entries) ≡ spec.cleared_terms l.fn.common l.terms.entries

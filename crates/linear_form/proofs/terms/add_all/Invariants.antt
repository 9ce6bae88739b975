use Rattle.std.proofs.Common.{◌≡◌, true, drop}
use Rattle.form_model.specs.Forms.{are_small, with_terms}
use Rattle.linear_form.proofs.terms.add_all.Given as goal

abbrev pub invariant-loop-i : goal.invariant-loop-i
invariant-loop-i l = record {
  so_far : with_terms l.terms.entries (drop l.i l.others.entries) ≡ with_terms l.initial.terms.entries l.others.entries;
  small : are_small l.terms.entries ≡ true;
}

use Rattle.std.proofs.Common.{◌≡◌, true, length}
use Rattle.frac_model.specs.Reduced as frac
use Rattle.form_model.specs.Forms.{each}
use Rattle.linear_form.specs.Terms.{each_from, are_small_to}
use Rattle.linear_form.proofs.terms.multiply_all.Given as goal

abbrev pub invariant-loop-i : goal.invariant-loop-i
invariant-loop-i l = record {
  so_far : each_from (λ c. frac.product c l.fn.factor) l.i l.terms.entries ≡ each (λ c. frac.product c l.fn.factor) l.initial.terms.entries;
  small : are_small_to l.i l.terms.entries ≡ true;
  len : length l.terms.entries ≡ l.i-end;
}

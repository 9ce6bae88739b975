use Rattle.std.proofs.Common.{◌≡◌, length}
use Rattle.frac_model.specs.Reduced as frac
use Rattle.form_model.specs.Forms.{each}
use Rattle.linear_form.specs.Terms.{each_from}
use Rattle.linear_form.proofs.terms.negate_all.Given as goal

abbrev pub invariant-loop-i : goal.invariant-loop-i
invariant-loop-i l = record {
  so_far : each_from frac.opposite l.i l.terms.entries ≡ each frac.opposite l.initial.terms.entries;
  len : length l.terms.entries ≡ l.i-end;
}

use Rattle.std.proofs.Common.{arith, sym, ◌∙◌}
use Rattle.frac_model.specs.Reduced as frac
use Rattle.linear_form.proofs.Changes.{length_changed, each_goes_on, each_ends}
use Rattle.linear_form.proofs.terms.negate_all.Goals as goal

pub loop-i-preserved : goal.loop-i-preserved
loop-i-preserved c =
    record {
      so_far = each_goes_on frac.opposite c.loop-i.i c.loop-i.terms.entries c.index.result.now c.negated.result c.index.ensures c.negated.ensures.value ∙ c.loop-i.invariant.so_far;
      len = length_changed c.loop-i.terms.entries c.loop-i.i c.negated.result ∙ c.loop-i.invariant.len;
    }

pub returns : goal.returns
returns c =
    let n = c.loop-i.invariant.len in
    record { value = sym (each_ends frac.opposite c.loop-i.i c.loop-i.terms.entries (let h = c.loop-i-test.false in omega arith)) ∙ c.loop-i.invariant.so_far }

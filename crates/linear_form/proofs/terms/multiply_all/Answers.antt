use Rattle.std.proofs.Common.{◌≡◌, false, arith, sym, ◌∙◌, ap}
use Rattle.std.proofs.lemmas.Result.{err_from_is_err_and}
use Rattle.clp_rationals.specs.Fraction.{Fraction}
use Rattle.frac_model.specs.Reduced as frac
use Rattle.frac_model.specs.Results.{is_small}
use Rattle.frac_model.specs.declared.fault.FracFault.TheVariants.{TooLarge}
use Rattle.form_model.specs.Forms.{are_small, each}
use Rattle.linear_form.proofs.Smallness.{ok_is, err_is, if_err}
use Rattle.linear_form.proofs.Changes.{length_changed, each_goes_on, each_ends, each_is_refused, small_goes_on, small_ends}
use Rattle.linear_form.proofs.terms.multiply_all.Goals as goal

pub returns-in_err-product-clause-fault : goal.returns-in_err-product-clause-fault
returns-in_err-product-clause-fault c =
    let g : Fraction → Fraction = λ x. frac.product x c.args.factor in
    let e = err_is c.in_err-product.field-0.0 (g c.index.result.now) c.in_err-product.ensures.value in
    let p = err_from_is_err_and c.from_residual.result c.from_residual.ensures.1 in
    if_err c.from_residual.result p.0 (λ f. (f ≡ TooLarge) × (are_small (each g c.args.terms.now.entries) ≡ false)) p.1
    (p.2 ∙ e.0, ap are_small (sym c.loop-i.invariant.so_far) ∙ each_is_refused g c.loop-i.i c.loop-i.terms.entries c.index.result.now c.index.ensures e.1)

pub loop-i-preserved : goal.loop-i-preserved
loop-i-preserved c =
    let g : Fraction → Fraction = λ x. frac.product x c.args.factor in
    let e = ok_is c.in_ok-product.product (g c.index.result.now) c.in_ok-product.ensures.value in
    record {
      so_far = each_goes_on g c.loop-i.i c.loop-i.terms.entries c.index.result.now c.in_ok-product.product c.index.ensures e.0 ∙ c.loop-i.invariant.so_far;
      small = small_goes_on c.loop-i.i c.loop-i.terms.entries c.in_ok-product.product (ap is_small e.0 ∙ e.1) c.loop-i.invariant.small;
      len = length_changed c.loop-i.terms.entries c.loop-i.i c.in_ok-product.product ∙ c.loop-i.invariant.len;
    }

pub returns-clause-value : goal.returns-clause-value
returns-clause-value c =
    let g : Fraction → Fraction = λ x. frac.product x c.args.factor in
    let n = c.loop-i.invariant.len in
    sym (each_ends g c.loop-i.i c.loop-i.terms.entries (let h = c.loop-i-test.false in omega arith)) ∙ c.loop-i.invariant.so_far

pub returns-clause-small : goal.returns-clause-small
returns-clause-small c =
    let n = c.loop-i.invariant.len in
    small_ends c.loop-i.i c.loop-i.terms.entries (let h = c.loop-i-test.false in omega arith) c.loop-i.invariant.small

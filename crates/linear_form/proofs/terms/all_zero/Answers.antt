use Rattle.std.proofs.Common.{sym, ◌∙◌}
use Rattle.linear_form.proofs.Changes.{zero_found, zero_goes_on}
use Rattle.linear_form.proofs.terms.all_zero.Goals as goal

pub returns-then-not-is_zero : goal.returns-then-not-is_zero
returns-then-not-is_zero c =
    zero_found c.args.terms.now.entries c.loop-i.i c.term_at-coefficient.result _ c.term_at-coefficient.ensures.value c.loop-i.invariant
    (sym c.is_zero.ensures.value ∙ c.if-not-is_zero.true)

pub loop-i-preserved : goal.loop-i-preserved
loop-i-preserved c =
    zero_goes_on c.args.terms.now.entries c.loop-i.i c.term_at-coefficient.result _ c.term_at-coefficient.ensures.value c.loop-i.invariant
    (sym c.is_zero.ensures.value ∙ c.if-not-is_zero.false)

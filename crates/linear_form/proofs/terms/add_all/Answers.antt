use Rattle.std.proofs.lemmas.Result.{err_from_is_err_and}
use Rattle.linear_form.proofs.Changes.{sum_goes_on, sum_is_refused}
use Rattle.linear_form.proofs.terms.add_all.Goals as goal

pub returns-in_err-add_term-clause-fault : goal.returns-in_err-add_term-clause-fault
returns-in_err-add_term-clause-fault c = λ f h.
    let qs = c.args.others.now.entries in
    let p = err_from_is_err_and c.from_residual.result c.from_residual.ensures.1 in
    let q = p.1 in
    let r = p.2 in
    let e = c.in_err-add_term.ensures.fault f cc in
    (e.0, sum_is_refused c.loop-i.terms.entries qs _ c.loop-i.terms.entries c.loop-i.i c.term_at-variable.result c.term_at-variable.ensures.value c.loop-i.invariant.so_far c.len-i-end.ensures.unique e.1)

pub loop-i-preserved : goal.loop-i-preserved
loop-i-preserved c =
    let qs = c.args.others.now.entries in
    record {
      so_far = sum_goes_on c.loop-i.terms.entries qs _ c.add_term.new.terms.entries c.loop-i.i c.term_at-variable.result c.term_at-variable.ensures.value c.loop-i.invariant.so_far c.in_ok-add_term.ensures.value;
      small = c.in_ok-add_term.ensures.small c.loop-i.invariant.small;
    }

use Rattle.std.proofs.Common.{ℕ, ℤ, List, sym, ◌∙◌, ap, subst}
use Rattle.std.specs.List.Sorted.{IsPermutation}
use Rattle.lin_row.specs.Rows.{VariablesRise, nonzero}
use Rattle.linear_form.proofs.InOrder.{sorted_rise, sorted_is, written_back}
use Rattle.linear_form.proofs.row.sorted.Goals as goal

pub returns-clause-rise : goal.returns-clause-rise
returns-clause-rise c =
    let s = c.sort_by_variable.ensures in
    let x = subst (λ (xs : List (ℕ × ℤ)). IsPermutation xs c.sort_by_variable.new.pairs) c.as_mut_slice.ensures.value s.exchanged in
    subst VariablesRise (sym (written_back _ c.sort_by_variable.new.pairs _ (s.len ∙ c.as_mut_slice.ensures.len)))
    (sorted_rise c.args.pairs.items c.sort_by_variable.new.pairs x c.requires.distinct s.sorted)

pub returns-clause-value : goal.returns-clause-value
returns-clause-value c =
    let s = c.sort_by_variable.ensures in
    let x = subst (λ (xs : List (ℕ × ℤ)). IsPermutation xs c.sort_by_variable.new.pairs) c.as_mut_slice.ensures.value s.exchanged in
    ap nonzero (written_back _ c.sort_by_variable.new.pairs _ (s.len ∙ c.as_mut_slice.ensures.len))
    ∙ sorted_is c.args.pairs.items c.sort_by_variable.new.pairs x (sorted_rise c.args.pairs.items c.sort_by_variable.new.pairs x c.requires.distinct s.sorted)

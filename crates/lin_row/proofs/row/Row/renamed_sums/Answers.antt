use Rattle.std.proofs.Common.{sym, ◌∙◌, ap, subst}
use Rattle.std.proofs.lemmas.Result.{IfOk-weaker}
use Rattle.lin_row.specs.Rows.{row_of, at, nonzero, VariablesRise}
use Rattle.lin_row.specs.Renaming.{moved, summed}
use Rattle.linear_model.specs.Changes.{renamed_pairs}
use Rattle.lin_row.proofs.Renaming.{moved_small, summed_rise, renamed_is}
use Rattle.lin_row.proofs.row.Row.renamed_sums.Goals as goal

pub summed-requires : goal.summed-requires
summed-requires c =
    let i = c.self.inside in
    record {
      small = moved_small (at c.args.map.now) (row_of i.rel i.pairs.items i.constant) c.in_ok-all_renumbered.field-0.items c.sorted-entries.result.items _ c.self.invariant.within
          (c.in_ok-all_renumbered.ensures.value ∙ ap (moved (at c.args.map.now)) c.as_slice.ensures) c.sorted-entries.ensures.exchanged c.as_slice-2.ensures;
    }

pub returns-clause-rise : goal.returns-clause-rise
returns-clause-rise c =
    IfOk-weaker c.summed.result _ _ (λ v h. subst VariablesRise (sym (h ∙ ap summed c.as_slice-2.ensures)) (summed_rise c.sorted-entries.result.items c.sorted-entries.ensures.order)) c.summed.ensures.value

pub returns-clause-value : goal.returns-clause-value
returns-clause-value c =
    let i = c.self.inside in
    let e = renamed_is (at c.args.map.now) i.pairs.items c.in_ok-all_renumbered.field-0.items c.sorted-entries.result.items c.self.invariant.normal.rising
    (c.in_ok-all_renumbered.ensures.value ∙ ap (moved (at c.args.map.now)) c.as_slice.ensures) c.sorted-entries.ensures.exchanged c.sorted-entries.ensures.order in
    let f = ap (λ r. renamed_pairs (at c.args.map.now) r.pairs) c.self.view_is in
    IfOk-weaker c.summed.result _ _ (λ v h. ap nonzero (h ∙ ap summed c.as_slice-2.ensures) ∙ (e ∙ f)) c.summed.ensures.value

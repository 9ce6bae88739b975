use Rattle.std.proofs.Common.{arith, sym, ap, ◌∙◌}
use Rattle.std.specs.Prelude.{slice_set, Option}
use Rattle.map_state.specs.declared.entry.Entry.{Entry}
use Rattle.map_state.specs.Rows.{dead_row}
use Rattle.map_state.proofs.Killing.{changed_is_set}
use Rattle.map_state.proofs.entry.kill.Goals as goal

pub returns-in-Some-clause-items : goal.returns-in-Some-clause-items
returns-in-Some-clause-items c =
    let items = c.args.entries.now.items in
    ap (λ (x : Option Entry). slice_set items c.args.place (dead_row x)) (sym c.in-Some.is ∙ c.index_mut.ensures.value)
    ∙ changed_is_set items c.args.place c.index_mut.result.now (omega (arith, c.args.entries.now.ok.0))

pub returns-in_default-clause-items : goal.returns-in_default-clause-items
returns-in_default-clause-items c =
    let items = c.args.entries.now.items in
    ap (λ (x : Option Entry). slice_set items c.args.place x) c.in_default.is
    ∙ ap (λ (x : Option Entry). slice_set items c.args.place (dead_row x)) (sym c.in_default.is ∙ c.index_mut.ensures.value)
    ∙ changed_is_set items c.args.place c.index_mut.result.now (omega (arith, c.args.entries.now.ok.0))

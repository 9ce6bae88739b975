use Rattle.std.proofs.Common.{ℕ, List, All, refl, ap, ◌∙◌, sym, subst, arith}
use Rattle.clp_model.specs.declared.tree.Tree.{Tree}
use Rattle.clp_model.specs.Trees.{variables, variables_in}
use Rattle.clp_model.proofs.Trees.{variables_app}
use Rattle.clause_loader.specs.WellFormed.{IsNumber}
use Rattle.loader_tests.proofs.Items.{variables_more, taken}
use Rattle.loader_tests.proofs.formed.+numbered.Goals as goal

pub loop-arg-preserved : goal.loop-arg-preserved
loop-arg-preserved t c = variables_more (IsNumber c.args.count) c.as_slice-arg-items.result.now c.loop-arg.arg-index c.arg-item.result (omega arith) c.arg-item.is c.loop-arg.invariant (c.if-not-numbered.ensures refl)

pub returns-after-loop-arg : goal.returns-after-loop-arg
returns-after-loop-arg t c = λ w.
    let P : List ℕ → Type 0 = All (IsNumber c.args.count) in
    let Q : List (Tree ℕ) → Type 0 = λ ts. All (IsNumber c.args.count) (variables_in ts) in
    let all = subst Q c.as_slice-arg-items.ensures (taken variables_in (IsNumber c.args.count) c.as_slice-arg-items.result.now c.loop-arg.arg-index (omega arith) c.loop-arg.invariant) in
    subst P (sym (ap variables c.in-App.is ∙ variables_app c.in-App.field-0 c.in-App.args)) all

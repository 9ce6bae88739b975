use Rattle.std.proofs.Common.{[], arith, subst, sym}
use Rattle.linear_model.specs.Items.{turn}
use Rattle.entail_find.specs.Kept.{Adds}
use Rattle.entail_find.proofs.Capped.{few_kept, many_kept}
use Rattle.entail_find.proofs.turn.turn.Goals as goal

pub returns-then-len-gt-MOST-clause-fault : goal.returns-then-len-gt-MOST-clause-fault
returns-then-len-gt-MOST-clause-fault g c =
    let made = turn c.args.variable c.args.items.items in
    let left = c.into_items-left.result in
    let a = subst (λ found. Adds found made c.make_items.new.into) c.in_ok-into.ensures c.in_ok-make_items.ensures.value in
    let b = subst (Adds [] made) (sym c.into_items-left.ensures) a in
    let ok = left.ok.0 in
    many_kept made left.items b (omega arith)

pub returns-clause-value : goal.returns-clause-value
returns-clause-value g c =
    let made = turn c.args.variable c.args.items.items in
    let left = c.into_items-left.result in
    let a = subst (λ found. Adds found made c.make_items.new.into) c.in_ok-into.ensures c.in_ok-make_items.ensures.value in
    let b = subst (Adds [] made) (sym c.into_items-left.ensures) a in
    let ok = left.ok.0 in
    few_kept made left.items b (omega arith)

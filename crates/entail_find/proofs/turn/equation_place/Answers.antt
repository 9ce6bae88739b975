use Rattle.linear_model.specs.Items.{Item}
use Rattle.linear_model.specs.Elimination.{has}
use Rattle.std.proofs.Common.{true, subst, ◌≡◌, sym, ap, ◌∙◌}
use Rattle.std.specs.Prelude.{Some}
use Rattle.std.specs.List.{remove}
use Rattle.std.proofs.lemmas.List.{get_or_read}
use Rattle.entail_find.proofs.Finding.{found_at, not_found_at, not_found}
use Rattle.entail_find.proofs.Turning.{remove_is}
use Rattle.linear_laws.proofs.Steps.{and_1}
use Rattle.entail_find.proofs.turn.equation_place.Goals as goal

pub returns-then-is_equation_of-clause-first : goal.returns-then-is_equation_of-clause-first
returns-then-is_equation_of-clause-first c d =
    let items = c.args.items.now in
    let k = c.loop-place.place in
    found_at c.args.variable items k c.index-items-place.result c.loop-place-test.true c.index-items-place.is (sym c.if-is_equation_of.ensures) c.loop-place.invariant
    ∙ ap (λ others. Some (c.index-items-place.result, others)) (remove_is items k)
    ∙ ap (λ i. Some (i, remove items k)) (get_or_read items _ _ c.loop-place-test.true c.index-items-place.is d)

pub loop-place-preserved : goal.loop-place-preserved
loop-place-preserved c = not_found_at c.args.variable c.args.items.now c.loop-place.place c.index-items-place.result c.loop-place-test.true c.index-items-place.is (sym c.if-is_equation_of.ensures) c.loop-place.invariant

pub returns-clause-none : goal.returns-clause-none
returns-clause-none c = not_found c.args.variable c.args.items.now c.loop-place.place c.loop-place-test.false c.loop-place.invariant

pub returns-then-is_equation_of-clause-has : goal.returns-then-is_equation_of-clause-has
returns-then-is_equation_of-clause-has c d =
    let items = c.args.items.now in
    let h = and_1 _ _ (sym c.if-is_equation_of.ensures) in
    subst (λ (i : Item). has c.args.variable i.row ≡ true) (get_or_read items _ _ c.loop-place-test.true c.index-items-place.is d) h

use Rattle.std.proofs.Common.{◌≡◌, ◌<◌, List, length, get_or, true, pos, sym, ◌∙◌, subst}
use Rattle.std.specs.Prelude.{None, int_lt}
use Rattle.std.proofs.lemmas.List.Elements.{All-get_or, All-same}
use Rattle.std.proofs.lemmas.Result.{on_ok_weaker}
use Rattle.linear_model.specs.Forms.{coefficient}
use Rattle.linear_model.specs.Elimination.{has, first_equation}
use Rattle.linear_model.specs.Items.{Item, item_row}
use Rattle.entail_find.proofs.Turning.{all_passed, all_left, all_removed, lower_has, upper_has, by_bounds_after, by_bounds_outside}
use Rattle.entail_find.proofs.turn.make_items.Goals as goal

pub substitute_each-requires : goal.substitute_each-requires
substitute_each-requires g c =
    let items = c.args.items.items in
    let k = c.in-Some.place in
    let e = c.remove-equation.result in
    let d = c.deref.ensures.value in
    let P : Item → Type 0 = λ i. length i.m ≡ g.count in
    let w = subst (λ xs. k < length xs) d c.in-Some.ensures.within in
    let h = subst (λ (xs : List Item). has c.args.variable (get_or xs k e).row ≡ true) d (c.in-Some.ensures.has e) in (
      subst (λ (i : Item). has c.args.variable i.row ≡ true) (sym c.remove-equation.ensures.value) h,
      (
        subst P (sym c.remove-equation.ensures.value) (All-get_or P items k e w c.requires),
        All-same P c.remove-equation.new.self.items _ c.remove-equation.ensures.items (all_removed P items k c.requires),
      ),
    )

pub pair_each-requires : goal.pair_each-requires
pair_each-requires g c =
    let items = c.args.items.items in
    let x = c.args.variable in
    let b = c.in_ok-bounds-in-None in
    let el = c.deref-in-None.ensures.value ∙ b.ensures.lowers in
    let eu = c.deref-in-None-2.ensures.value ∙ b.ensures.uppers in
    let H : Item → Type 0 = λ i. has x i.row ≡ true in
    let P : Item → Type 0 = λ i. length i.m ≡ g.count in (
      All-same H _ _ el (all_passed H (λ i. int_lt (coefficient i.row.pairs x) (pos 0)) items (lower_has x)),
      (
        All-same H _ _ eu (all_passed H (λ i. int_lt (pos 0) (coefficient i.row.pairs x)) items (upper_has x)),
        (
          All-same P _ _ el (all_left P (λ i. int_lt (coefficient i.row.pairs x) (pos 0)) items c.requires),
          All-same P _ _ eu (all_left P (λ i. int_lt (pos 0) (coefficient i.row.pairs x)) items c.requires),
        ),
      ),
    )

pub returns-in_ok-bounds-in-None-clause-value : goal.returns-in_ok-bounds-in-None-clause-value
returns-in_ok-bounds-in-None-clause-value g c =
    let items = c.args.items.items in
    let x = c.args.variable in
    let b = c.in_ok-bounds-in-None in
    let el = c.deref-in-None.ensures.value ∙ b.ensures.lowers in
    let eu = c.deref-in-None-2.ensures.value ∙ b.ensures.uppers in
    let none = subst (λ xs. first_equation item_row x xs ≡ None) c.deref.ensures.value c.in-None.ensures.none in
    on_ok_weaker c.pair_each.result (λ h. by_bounds_after x items _ _ c.args.into.now c.sort_each.new.into c.pair_each.new.into none el eu b.ensures.value h) c.pair_each.ensures.value

pub returns-in_ok-bounds-in-None-clause-overflow :
    goal.returns-in_ok-bounds-in-None-clause-overflow
returns-in_ok-bounds-in-None-clause-overflow g c h =
    let items = c.args.items.items in
    let x = c.args.variable in
    let b = c.in_ok-bounds-in-None in
    let el = c.deref-in-None.ensures.value ∙ b.ensures.lowers in
    let eu = c.deref-in-None-2.ensures.value ∙ b.ensures.uppers in
    let none = subst (λ xs. first_equation item_row x xs ≡ None) c.deref.ensures.value c.in-None.ensures.none in
    by_bounds_outside x items _ _ none el eu (c.pair_each.ensures.overflow h)

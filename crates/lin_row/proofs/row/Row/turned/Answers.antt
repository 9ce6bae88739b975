use Rattle.std.proofs.Common.{refl, ◌∙◌, ap, neg_ℤ}
use Rattle.lin_row.specs.Rows.{row_of}
use Rattle.lin_row.proofs.Quotients.{row_small, row_constant_small, same_64}
use Rattle.lin_row.proofs.Opposites.{all_lent, refilled, turned_parts}
use Rattle.lin_row.proofs.row.Row.turned.Goals as goal

pub take_opposites-requires : goal.take_opposites-requires
take_opposites-requires c =
    let i = c.self.inside in
    record { small = all_lent i.pairs.items _ c.as_mut_slice.ensures.value (row_small (row_of i.rel i.pairs.items i.constant) c.self.invariant.within) }

pub invariant_of-result : goal.invariant_of-result
invariant_of-result c =
    let i = c.self.inside in
    turned_parts (row_of i.rel i.pairs.items i.constant) c.args.rel _ c.opposite_number.result c.requires.inequality c.self.invariant
    (refilled _ i.pairs.items c.take_opposites.new.pairs _ refl c.as_mut_slice.ensures.value c.take_opposites.ensures.value)
    (c.opposite_number.ensures.value ∙ ap neg_ℤ (same_64 i.constant (row_constant_small (row_of i.rel i.pairs.items i.constant) c.self.invariant.within)))

pub returns-clause-kept : goal.returns-clause-kept
returns-clause-kept c =
    let i = c.self.inside in
    turned_parts (row_of i.rel i.pairs.items i.constant) c.args.rel _ c.opposite_number.result c.requires.inequality c.self.invariant
    (refilled _ i.pairs.items c.take_opposites.new.pairs _ refl c.as_mut_slice.ensures.value c.take_opposites.ensures.value)
    (c.opposite_number.ensures.value ∙ ap neg_ℤ (same_64 i.constant (row_constant_small (row_of i.rel i.pairs.items i.constant) c.self.invariant.within)))

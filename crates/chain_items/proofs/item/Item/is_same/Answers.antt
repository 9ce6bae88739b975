use Rattle.std.proofs.Common.{◌≤◌, sym, subst}
use Rattle.std.specs.Prelude.{All, unsigned_abs, FitsSigned}
use mir.Syntax.{w64}
use Rattle.std.proofs.Common.{rules}
use Rattle.std.proofs.lemmas.Int.{to_z-of_z}
use Rattle.linear_model.specs.Normal.{limit}
use Rattle.chain_items.specs.Items.{row_of}
use Rattle.chain_items.proofs.Merging.{row_pairs_small}
use Rattle.chain_items.proofs.Reading.{normal_not_zero}
use Rattle.chain_items.proofs.item.Item.is_same.Goals as goal

pub same_pairs-requires-clause-pairs_small : goal.same_pairs-requires-clause-pairs_small
same_pairs-requires-clause-pairs_small c =
    let i = c.self.inside in
    subst (All (λ p. unsigned_abs p.1 ≤ limit)) (sym c.as_slice.ensures) (row_pairs_small i.pairs.items i.constant c.self.invariant.within)

pub same_pairs-requires-clause-others_small : goal.same_pairs-requires-clause-others_small
same_pairs-requires-clause-others_small c =
    let i = c.other.inside in
    subst (All (λ p. unsigned_abs p.1 ≤ limit)) (sym c.as_slice-then-same_rel.ensures) (row_pairs_small i.pairs.items i.constant c.other.invariant.within)

pub same_quotient-requires-clause-not_zero : goal.same_quotient-requires-clause-not_zero
same_quotient-requires-clause-not_zero c =
    let i = c.self.inside in
    let f : FitsSigned w64 i.divisor = search rules in
    simp to_z-of_z (normal_not_zero (row_of i.rel i.pairs.items i.constant) i.divisor c.self.invariant.divisor_is)

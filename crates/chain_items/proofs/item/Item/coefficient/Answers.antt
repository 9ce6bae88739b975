use Rattle.std.proofs.Common.{◌≤◌, sym, subst, ◌∙◌, ap}
use Rattle.std.specs.Prelude.{unsigned_abs, nat_le}
use Rattle.std.proofs.lemmas.Int.{to_z-of_z}
use Rattle.linear_model.specs.Forms.{coefficient}
use Rattle.linear_model.specs.Normal.{limit, pairs_within}
use Rattle.chain_items.proofs.Merging.{both}
use Rattle.chain_items.proofs.Whole.{fits_64}
use Rattle.chain_items.specs.Items.{row_of}
use Rattle.chain_items.proofs.Reading.{seen_within, each_small}
use Rattle.chain_items.proofs.item.Item.coefficient.Goals as goal

pub returns-clause-within : goal.returns-clause-within
returns-clause-within c =
    let i = c.self.inside in
    seen_within c.args.self.now (row_of i.rel i.pairs.items i.constant) i.count i.weights.items i.divisor i.hash c.self.view_is c.self.invariant

pub returns-clause-small : goal.returns-clause-small
returns-clause-small c =
    let i = c.self.inside in
    let e = c.coefficient_in.ensures ∙ ap (λ ps. coefficient ps c.args.variable) c.as_slice.ensures in
    let k = subst (λ z. unsigned_abs z ≤ limit) (sym e) (each_small c.args.variable i.pairs.items c.self.invariant.rising (both (pairs_within i.pairs.items) (nat_le (unsigned_abs i.constant) limit) c.self.invariant.within).0) in
    let f = fits_64 c.coefficient_in.result k in
    simp to_z-of_z k

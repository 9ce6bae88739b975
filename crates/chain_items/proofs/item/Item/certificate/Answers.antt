use Rattle.std.proofs.Common.{◌≡◌, map, true}
use Rattle.std.specs.Prelude.{FitsSigned}
use Rattle.std.proofs.lemmas.Int.{to_z-of_z}
use Rattle.std.proofs.lemmas.Result.{IfOk-weaker}
use mir.Syntax.{w64}
use Rattle.linear_model.specs.Chain.{signed, weights_within}
use Rattle.chain_items.specs.Sparse.{spread, sign}
use Rattle.chain_items.specs.Items.{row_of}
use Rattle.chain_items.proofs.Whole.{row_constant_fits}
use Rattle.chain_items.proofs.Reading.{certificate_is, certificate_within}
use Rattle.chain_items.proofs.item.Item.certificate.Goals as goal

pub returns-clause-value : goal.returns-clause-value
returns-clause-value c =
    let i = c.self.inside in
    let r = row_of i.rel i.pairs.items i.constant in
    let f : FitsSigned w64 i.constant = row_constant_fits r c.self.invariant.within in
    IfOk-weaker c.multipliers.result (λ v. v.items ≡ map (sign c.is_opposite.result) (spread 0 i.count c.as_slice.result.now)) (λ v. v.items ≡ signed c.args.self.now)
    (λ v h. certificate_is c.args.self.now r i.count i.weights.items c.as_slice.result.now c.is_opposite.result v.items c.self.view_is c.as_slice.ensures (simp to_z-of_z at c.is_opposite.ensures) h)
    c.multipliers.ensures

pub returns-clause-within : goal.returns-clause-within
returns-clause-within c =
    let i = c.self.inside in
    IfOk-weaker c.multipliers.result (λ v. v.items ≡ map (sign c.is_opposite.result) (spread 0 i.count c.as_slice.result.now)) (λ v. weights_within v.items ≡ true)
    (λ v h. certificate_within i.count i.weights.items c.as_slice.result.now c.is_opposite.result v.items c.as_slice.ensures c.self.invariant.places_rise c.self.invariant.places_below c.self.invariant.multipliers_within h)
    c.multipliers.ensures

use Rattle.std.proofs.Common.{◌≤◌, arith, sym, subst, ◌∙◌, ap}
use Rattle.std.specs.Prelude.{All, unsigned_abs, FitsSigned}
use Rattle.std.proofs.lemmas.Int.{to_z-of_z}
use mir.Syntax.{w64}
use Rattle.linear_model.specs.Normal.{limit}
use Rattle.linear_model.specs.Chain.{multiplier_limit}
use Rattle.chain_items.specs.Items.{row_of, item_within}
use Rattle.chain_items.proofs.Merging.{row_pairs_small, most_all}
use Rattle.chain_items.proofs.Whole.{fits_64, row_constant_fits, carried, past_carried, overflows, keep_rising, keep_within, keep_places_rise, keep_places_below, keep_is, keep_item_within}
use Rattle.chain_items.proofs.item.Item.combined.Goals as goal

pub combination-numbers-requires-clause-first_small : goal.combination-numbers-requires-clause-first_small
combination-numbers-requires-clause-first_small c =
    let i = c.first.inside in
    subst (All (λ p. unsigned_abs p.1 ≤ limit)) (sym c.as_slice.ensures) (row_pairs_small i.pairs.items i.constant c.first.invariant.within)

pub combination-numbers-requires-clause-second_small : goal.combination-numbers-requires-clause-second_small
combination-numbers-requires-clause-second_small c =
    let i = c.second.inside in
    subst (All (λ p. unsigned_abs p.1 ≤ limit)) (sym c.as_slice-3.ensures) (row_pairs_small i.pairs.items i.constant c.second.invariant.within)

pub combination-numbers-requires-clause-first_weights : goal.combination-numbers-requires-clause-first_weights
combination-numbers-requires-clause-first_weights c =
    let i = c.first.inside in
    subst (All (λ p. unsigned_abs p.1 ≤ limit)) (sym c.as_slice-2.ensures) (most_all multiplier_limit i.weights.items c.first.invariant.multipliers_within (omega arith))

pub combination-numbers-requires-clause-second_weights : goal.combination-numbers-requires-clause-second_weights
combination-numbers-requires-clause-second_weights c =
    let i = c.second.inside in
    subst (All (λ p. unsigned_abs p.1 ≤ limit)) (sym c.as_slice-4.ensures) (most_all multiplier_limit i.weights.items c.second.invariant.multipliers_within (omega arith))

pub keep-requires-clause-rising : goal.keep-requires-clause-rising
keep-requires-clause-rising c =
    let i = c.first.inside in
    let j = c.second.inside in
    let r = row_of i.rel i.pairs.items i.constant in
    let s = row_of j.rel j.pairs.items j.constant in
    let fa = c.ranges.a in
    let fb = c.ranges.b in
    let fc : FitsSigned w64 i.constant = row_constant_fits r c.first.invariant.within in
    let fd : FitsSigned w64 j.constant = row_constant_fits s c.second.invariant.within in
    let q = c.in-Ok.q in
    let made = carried c.args.a c.args.b i.pairs.items _ i.constant i.weights.items _ j.pairs.items _ j.constant j.weights.items _ q.pairs.items q.constant q.weights.items
    c.as_slice.ensures c.as_slice-2.ensures c.as_slice-3.ensures c.as_slice-4.ensures (simp to_z-of_z at c.in-Ok.ensures.made) in
    keep_rising c.args.rel c.args.a c.args.b c.args.first.now c.args.second.now r s i.count j.count i.weights.items j.weights.items i.divisor j.divisor i.hash j.hash c.first.view_is c.second.view_is c.requires.counts c.first.invariant c.second.invariant q.pairs.items q.constant q.weights.items made

pub keep-requires-clause-places_rise : goal.keep-requires-clause-places_rise
keep-requires-clause-places_rise c =
    let i = c.first.inside in
    let j = c.second.inside in
    let r = row_of i.rel i.pairs.items i.constant in
    let s = row_of j.rel j.pairs.items j.constant in
    let fa = c.ranges.a in
    let fb = c.ranges.b in
    let fc : FitsSigned w64 i.constant = row_constant_fits r c.first.invariant.within in
    let fd : FitsSigned w64 j.constant = row_constant_fits s c.second.invariant.within in
    let q = c.in-Ok.q in
    let made = carried c.args.a c.args.b i.pairs.items _ i.constant i.weights.items _ j.pairs.items _ j.constant j.weights.items _ q.pairs.items q.constant q.weights.items
    c.as_slice.ensures c.as_slice-2.ensures c.as_slice-3.ensures c.as_slice-4.ensures (simp to_z-of_z at c.in-Ok.ensures.made) in
    keep_places_rise c.args.rel c.args.a c.args.b c.args.first.now c.args.second.now r s i.count j.count i.weights.items j.weights.items i.divisor j.divisor i.hash j.hash c.first.view_is c.second.view_is c.requires.counts c.first.invariant c.second.invariant q.pairs.items q.constant q.weights.items made

pub keep-requires-clause-places_below : goal.keep-requires-clause-places_below
keep-requires-clause-places_below c =
    let i = c.first.inside in
    let j = c.second.inside in
    let r = row_of i.rel i.pairs.items i.constant in
    let s = row_of j.rel j.pairs.items j.constant in
    let fa = c.ranges.a in
    let fb = c.ranges.b in
    let fc : FitsSigned w64 i.constant = row_constant_fits r c.first.invariant.within in
    let fd : FitsSigned w64 j.constant = row_constant_fits s c.second.invariant.within in
    let q = c.in-Ok.q in
    let made = carried c.args.a c.args.b i.pairs.items _ i.constant i.weights.items _ j.pairs.items _ j.constant j.weights.items _ q.pairs.items q.constant q.weights.items
    c.as_slice.ensures c.as_slice-2.ensures c.as_slice-3.ensures c.as_slice-4.ensures (simp to_z-of_z at c.in-Ok.ensures.made) in
    keep_places_below c.args.rel c.args.a c.args.b c.args.first.now c.args.second.now r s i.count j.count i.weights.items j.weights.items i.divisor j.divisor i.hash j.hash c.first.view_is c.second.view_is c.requires.counts c.first.invariant c.second.invariant q.pairs.items q.constant q.weights.items made

pub keep-requires-clause-within : goal.keep-requires-clause-within
keep-requires-clause-within c =
    let i = c.first.inside in
    let j = c.second.inside in
    let r = row_of i.rel i.pairs.items i.constant in
    let s = row_of j.rel j.pairs.items j.constant in
    let fa = c.ranges.a in
    let fb = c.ranges.b in
    let fc : FitsSigned w64 i.constant = row_constant_fits r c.first.invariant.within in
    let fd : FitsSigned w64 j.constant = row_constant_fits s c.second.invariant.within in
    let q = c.in-Ok.q in
    let made = carried c.args.a c.args.b i.pairs.items _ i.constant i.weights.items _ j.pairs.items _ j.constant j.weights.items _ q.pairs.items q.constant q.weights.items
    c.as_slice.ensures c.as_slice-2.ensures c.as_slice-3.ensures c.as_slice-4.ensures (simp to_z-of_z at c.in-Ok.ensures.made) in
    let fq : FitsSigned w64 q.constant = fits_64 q.constant made.constant_within in
    let k = keep_within c.args.rel c.args.a c.args.b c.args.first.now c.args.second.now r s i.count j.count i.weights.items j.weights.items i.divisor j.divisor i.hash j.hash c.first.view_is c.second.view_is c.requires.counts c.first.invariant c.second.invariant q.pairs.items q.constant q.weights.items made in
    simp to_z-of_z k

pub returns-in-Ok-clause-value : goal.returns-in-Ok-clause-value
returns-in-Ok-clause-value c =
    let i = c.first.inside in
    let j = c.second.inside in
    let r = row_of i.rel i.pairs.items i.constant in
    let s = row_of j.rel j.pairs.items j.constant in
    let fa = c.ranges.a in
    let fb = c.ranges.b in
    let fc : FitsSigned w64 i.constant = row_constant_fits r c.first.invariant.within in
    let fd : FitsSigned w64 j.constant = row_constant_fits s c.second.invariant.within in
    let q = c.in-Ok.q in
    let made = carried c.args.a c.args.b i.pairs.items _ i.constant i.weights.items _ j.pairs.items _ j.constant j.weights.items _ q.pairs.items q.constant q.weights.items
    c.as_slice.ensures c.as_slice-2.ensures c.as_slice-3.ensures c.as_slice-4.ensures (simp to_z-of_z at c.in-Ok.ensures.made) in
    let fq : FitsSigned w64 q.constant = fits_64 q.constant made.constant_within in
    let k = keep_is c.args.rel c.args.a c.args.b c.args.first.now c.args.second.now r s i.count j.count i.weights.items j.weights.items i.divisor j.divisor i.hash j.hash c.first.view_is c.second.view_is c.requires.counts c.first.invariant c.second.invariant q.pairs.items q.constant q.weights.items made in
    let e = simp to_z-of_z at c.keep.ensures in
    e ∙ k

pub returns-in-Ok-clause-within : goal.returns-in-Ok-clause-within
returns-in-Ok-clause-within c =
    let i = c.first.inside in
    let j = c.second.inside in
    let r = row_of i.rel i.pairs.items i.constant in
    let s = row_of j.rel j.pairs.items j.constant in
    let fa = c.ranges.a in
    let fb = c.ranges.b in
    let fc : FitsSigned w64 i.constant = row_constant_fits r c.first.invariant.within in
    let fd : FitsSigned w64 j.constant = row_constant_fits s c.second.invariant.within in
    let q = c.in-Ok.q in
    let made = carried c.args.a c.args.b i.pairs.items _ i.constant i.weights.items _ j.pairs.items _ j.constant j.weights.items _ q.pairs.items q.constant q.weights.items
    c.as_slice.ensures c.as_slice-2.ensures c.as_slice-3.ensures c.as_slice-4.ensures (simp to_z-of_z at c.in-Ok.ensures.made) in
    let fq : FitsSigned w64 q.constant = fits_64 q.constant made.constant_within in
    let k = keep_item_within c.args.rel c.args.a c.args.b c.args.first.now c.args.second.now r s i.count j.count i.weights.items j.weights.items i.divisor j.divisor i.hash j.hash c.first.view_is c.second.view_is c.requires.counts c.first.invariant c.second.invariant q.pairs.items q.constant q.weights.items made in
    let e = simp to_z-of_z at c.keep.ensures in
    ap item_within e ∙ k

pub returns-in-Err-clause-overflow : goal.returns-in-Err-clause-overflow
returns-in-Err-clause-overflow c e =
    let i = c.first.inside in
    let j = c.second.inside in
    let r = row_of i.rel i.pairs.items i.constant in
    let s = row_of j.rel j.pairs.items j.constant in
    let fa = c.ranges.a in
    let fb = c.ranges.b in
    let fc : FitsSigned w64 i.constant = row_constant_fits r c.first.invariant.within in
    let fd : FitsSigned w64 j.constant = row_constant_fits s c.second.invariant.within in
    overflows c.args.rel c.args.a c.args.b c.args.first.now c.args.second.now r s i.count j.count i.weights.items j.weights.items i.divisor j.divisor i.hash j.hash c.first.view_is c.second.view_is c.requires.counts c.first.invariant c.second.invariant
    (past_carried c.args.a c.args.b i.pairs.items _ i.constant i.weights.items _ j.pairs.items _ j.constant j.weights.items _ c.as_slice.ensures c.as_slice-2.ensures c.as_slice-3.ensures c.as_slice-4.ensures (simp to_z-of_z at (c.in-Err.ensures.overflow (cc))))

use Rattle.std.proofs.Common.{◌∙◌, ap, sym, arith, to_z, of_z}
use Rattle.std.proofs.lemmas.Int.{to_z-of_z}
use mir.Syntax.{w64}
use Rattle.farkas_check.specs.Checks.{cancels}
use Rattle.farkas_check.proofs.Walking.{one_fails, next_is_from, passed_more, passed_all}
use Rattle.farkas_check.proofs.check.cancels.Goals as goal

pub returns-then-not-cancels_at : goal.returns-then-not-cancels_at
returns-then-not-cancels_at c =
    let k = to_z w64 (of_z w64 c.args.k) in
    let e = to_z-of_z w64 c.args.k c.ranges.k in
    let a = c.if-not-cancels_at.ensures in
    one_fails c.args.rows.now c.args.multipliers.now k c.args.pairs.now c.in-Some.variable (sym a) ∙ ap (λ z. cancels c.args.rows.now c.args.multipliers.now z c.args.pairs.now) e

pub loop-variable-smaller : goal.loop-variable-smaller
loop-variable-smaller c =
    let h = next_is_from c.loop-variable.from c.args.rows.now c.args.multipliers.now c.args.k c.args.pairs.now c.in-Some.variable c.in-Some.ensures in
    omega arith

pub loop-variable-preserved : goal.loop-variable-preserved
loop-variable-preserved c =
    let k = to_z w64 (of_z w64 c.args.k) in
    let a = c.if-not-cancels_at.ensures in
    record {
      within = omega arith;
      passed = passed_more c.loop-variable.from c.args.rows.now c.args.multipliers.now k c.args.pairs.now c.loop-variable.invariant.passed c.in-Some.variable c.in-Some.ensures (sym a);
    }

pub returns : goal.returns
returns c =
    let k = to_z w64 (of_z w64 c.args.k) in
    let e = to_z-of_z w64 c.args.k c.ranges.k in
    passed_all c.loop-variable.from c.args.rows.now c.args.multipliers.now k c.args.pairs.now c.loop-variable.invariant.passed c.in_default.ensures ∙ ap (λ z. cancels c.args.rows.now c.args.multipliers.now z c.args.pairs.now) e

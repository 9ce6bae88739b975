use Rattle.std.proofs.Common.{drop}
use Rattle.std.specs.Prelude.{FitsSigned}
use Rattle.std.proofs.Common.{◌≡◌, rules}
use Rattle.std.proofs.lemmas.Int.{to_z-of_z}
use mir.Syntax.{w128}
use Rattle.linear_model.specs.Forms.{combined}
use Rattle.linear_model.specs.Normal.{joint_gcd}
use Rattle.chain_items.proofs.Merging.{divisor_turn, divisor_end}
use Rattle.chain_items.proofs.reduce.combined_divisor.Goals as goal

pub loop-divisor-preserved : goal.loop-divisor-preserved
loop-divisor-preserved c =
    let s = c.in-Some.next in
    let l = c.loop-divisor in
    let fits : FitsSigned w128 s.coefficient = search rules in
    record {
      first_within = c.in-Some.ensures.first_within l.invariant.first_within;
      second_within = c.in-Some.ensures.second_within l.invariant.second_within;
      so_far = divisor_turn l.divisor c.unsigned_abs.result c.gcd-divisor.result s.variable s.coefficient _ _ _ c.gcd-divisor.ensures (simp to_z-of_z at c.unsigned_abs.ensures.value) c.in-Some.ensures.some l.invariant.so_far;
    }

pub returns : goal.returns
returns c =
    let fa = c.ranges.a in
    let fb = c.ranges.b in
    let e : joint_gcd c.loop-divisor.divisor (combined c.args.a (drop c.loop-divisor.i c.args.first.now) c.args.b (drop c.loop-divisor.j c.args.second.now))
    ≡ joint_gcd c.args.start (combined c.args.a c.args.first.now c.args.b c.args.second.now) = simp to_z-of_z at c.loop-divisor.invariant.so_far in
    divisor_end c.loop-divisor.divisor (combined c.args.a (drop c.loop-divisor.i c.args.first.now) c.args.b (drop c.loop-divisor.j c.args.second.now)) _ c.loop-divisor-test.false e

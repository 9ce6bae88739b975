use Rattle.std.proofs.Common.{◌∙◌, get_or, pos}
use Rattle.std.specs.Prelude.{FitsSigned}
use Rattle.std.proofs.lemmas.Int.{to_z-of_z}
use mir.Syntax.{w64}
use Rattle.std.proofs.Common.{rules}
use Rattle.farkas_check.proofs.Found.{found, passed}
use Rattle.farkas_check.proofs.sum.coefficient.Goals as goal

pub returns-then-p-variable : goal.returns-then-p-variable
returns-then-p-variable c =
    let h = found c.args.pairs.now c.loop-p.p-index c.args.variable _ c.loop-p-test.true c.loop-p.invariant.rising c.if-p-variable.true c.loop-p.invariant.value in
    let f : FitsSigned w64 (get_or c.args.pairs.now c.loop-p.p-index (0, pos 0)).1 = search rules in
    record { value = to_z-of_z w64 (get_or c.args.pairs.now c.loop-p.p-index (0, pos 0)).1 f ∙ h }

pub returns-then-p-variable-2 : goal.returns-then-p-variable-2
returns-then-p-variable-2 c =
    record { value = passed c.args.pairs.now c.loop-p.p-index c.args.variable _ c.loop-p-test.true c.loop-p.invariant.rising c.if-p-variable-2.true c.loop-p.invariant.value }

use Rattle.std.proofs.Common.{arith, subst, Option}
use Rattle.substitution.specs.declared.weighing.Weight.{Weight}
use Rattle.substitution.specs.Weights.{WeighAll}
use Rattle.substitution.proofs.Weighed.{above_large, above_deep, above_is}
use Rattle.substitution.proofs.weighing.above.Goals as goal

pub returns-then-args-ge-MAX_SIZE : goal.returns-then-args-ge-MAX_SIZE
returns-then-args-ge-MAX_SIZE c name ts h =
    let P : Option Weight → Type 0 = λ o. WeighAll o ts in
    above_large c.in-Some.args name ts (subst P c.in-Some.is h) (omega arith)

pub returns-then-args-ge-MAX_DEPTH : goal.returns-then-args-ge-MAX_DEPTH
returns-then-args-ge-MAX_DEPTH c name ts h =
    let P : Option Weight → Type 0 = λ o. WeighAll o ts in
    above_deep c.in-Some.args name ts (subst P c.in-Some.is h) (omega arith)

pub returns : goal.returns
returns c name ts h =
    let P : Option Weight → Type 0 = λ o. WeighAll o ts in
    above_is c.in-Some.args name ts (subst P c.in-Some.is h) (omega arith) (omega arith)

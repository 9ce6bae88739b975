use Rattle.std.proofs.Common.{ℕ, List, map, All, refl, ◌∙◌, subst, arith}
use Rattle.std.proofs.Math.IntN.{ℤ, pos}
use Rattle.std.proofs.lemmas.List.{take_all}
use Rattle.clause_store.specs.Stored.{IsNum}
use Rattle.loader_tests.proofs.Items.{pairs_more}
use Rattle.loader_tests.proofs.formed.are_num.Goals as goal

pub loop-pair-preserved : goal.loop-pair-preserved
loop-pair-preserved c = pairs_more (IsNum c.args.sorts.now) c.pairs-pair-items.result.now c.loop-pair.pair-index (0, pos 0) (omega arith) c.loop-pair.invariant (c.if-not-is_num.ensures refl)

pub returns : goal.returns
returns c = λ t.
    let P : List (ℕ × ℤ) → Type 0 = λ ps. All (IsNum c.args.sorts.now) (map (λ p. p.0) ps) in
    subst P (take_all c.loop-pair.pair-index c.pairs-pair-items.result.now (omega arith) ∙ c.pairs-pair-items.ensures.value) c.loop-pair.invariant

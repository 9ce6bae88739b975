use Rattle.std.proofs.Common.{◌∙◌, ℕ, List, [], ◌∷◌, ◌++◌, sym, ap, subst, take, arith}
use Rattle.std.proofs.lemmas.List.{take_more}
use Rattle.unify.specs.Pairs.{AreEntered}
use Rattle.unify.proofs.Entered.{pair_in, entered_more}
use Rattle.unify.proofs.unifying.enter_pairs.Goals as goal

pub enter-requires-clause-within : goal.enter-requires-clause-within
enter-requires-clause-within c = (pair_in c.args.store.now c.args.pairs.now c.loop-a.a-index c.loop-a-item.result c.requires.pairs (omega arith) c.loop-a-item.is).0

pub enter-requires-in-loop-a-clause-within : goal.enter-requires-in-loop-a-clause-within
enter-requires-in-loop-a-clause-within c = (pair_in c.args.store.now c.args.pairs.now c.loop-a.a-index c.loop-a-item.result c.requires.pairs (omega arith) c.loop-a-item.is).1

pub loop-a-preserved : goal.loop-a-preserved
loop-a-preserved c =
    subst (λ (ps : List (ℕ × ℕ)). AreEntered c.args.store.now c.enter-in-loop-a.new.self ps c.push.new.self.items) (sym (take_more c.args.pairs.now c.loop-a.a-index c.loop-a-item.result (omega arith) ∙ ap (λ (x : ℕ × ℕ). take c.loop-a.a-index c.args.pairs.now ++ x ∷ []) (sym c.loop-a-item.is)))
    (subst (AreEntered c.args.store.now c.enter-in-loop-a.new.self _) (sym c.in_ok-push.ensures.items)
    (entered_more c.args.store.now c.loop-a.graph c.enter.new.self c.enter-in-loop-a.new.self _ c.loop-a.equations.items c.loop-a-item.result c.in_ok-a.a c.in_ok-b.b c.loop-a.invariant c.in_ok-a.ensures c.in_ok-b.ensures))

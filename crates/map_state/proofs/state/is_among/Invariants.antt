use Rattle.std.proofs.Common.{◌≡◌, drop}
use Rattle.std.specs.List.{list_any}
use Rattle.clp_model.specs.Predicates.{same_predicate}
use Rattle.map_state.proofs.state.is_among.Given as goal

abbrev pub invariant-loop-other : goal.invariant-loop-other
invariant-loop-other l = list_any (λ p. same_predicate p l.pred) (drop l.other-index l.preds) ≡ list_any (λ p. same_predicate p l.pred) l.preds

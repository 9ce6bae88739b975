use Rattle.std.proofs.Common.{◌≡◌, drop, map, nat_eq}
use Rattle.clp_model.specs.Predicates.{distinct_after}
use Rattle.clause_source.proofs.meeting.meet_row.Given as goal

abbrev pub invariant-loop-pair : goal.invariant-loop-pair
invariant-loop-pair l = distinct_after nat_eq l.met (map (λ p. p.0) (drop l.pair-index l.pair-items)) ≡ distinct_after nat_eq l.initial.met (map (λ p. p.0) l.pair-items)

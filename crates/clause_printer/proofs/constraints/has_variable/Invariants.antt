use Rattle.std.proofs.Common.{◌≡◌, drop, nat_eq, map}
use Rattle.std.specs.List.{list_any}
use Rattle.clause_printer.proofs.constraints.has_variable.Given as goal

abbrev pub invariant-loop-pair : goal.invariant-loop-pair
invariant-loop-pair l = list_any (λ m. nat_eq m l.number) (map (λ p. p.0) (drop l.pair-index l.pair-items)) ≡ list_any (λ m. nat_eq m l.number) (map (λ p. p.0) l.fn.row.pairs)

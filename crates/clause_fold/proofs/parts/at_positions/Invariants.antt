use Rattle.std.proofs.Common.{◌≡◌, ℕ, ◌++◌, drop, length, None}
use Rattle.fold_model.specs.Positions as spec
use Rattle.clause_fold.proofs.parts.at_positions.Given as goal

abbrev pub invariant-loop-position : goal.invariant-loop-position
invariant-loop-position l = (spec.first_outside (length l.terms) (drop l.position-index l.positions) ≡ None) × ((none : ℕ) → l.found ++ spec.at_positions none l.terms (drop l.position-index l.positions) ≡ spec.at_positions none l.terms l.positions)

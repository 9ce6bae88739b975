use Rattle.std.proofs.Common.{◌≡◌, drop, map}
use Rattle.term_store.specs.Trees.{AreIn}
use Rattle.clause_store.specs.Stored.{atoms_at}
use Rattle.fold_model.specs.Positions.{is_in}
use Rattle.fold_model.specs.Internal.{number_in}
use Rattle.clause_fold.proofs.definitions.has_variable.Given as goal

abbrev pub invariant-loop-term : goal.invariant-loop-term
invariant-loop-term l = record {
  inside : AreIn l.store (drop l.term-index l.terms);
  left : is_in (map number_in (atoms_at l.store (drop l.term-index l.terms))) l.number ≡ is_in (map number_in (atoms_at l.store l.terms)) l.number;
}

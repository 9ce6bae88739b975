use Rattle.std.proofs.Common.{◌≡◌, map, take}
use Rattle.clause_store.specs.Stored.{atoms_at}
use Rattle.fold_model.specs.Internal.{number_in}
use Rattle.clause_fold.proofs.rows.image_numbers.Given as goal

abbrev pub invariant-loop-term : goal.invariant-loop-term
invariant-loop-term l = l.numbers ≡ map number_in (atoms_at l.scratch (take l.term-index l.images))

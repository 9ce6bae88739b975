use Rattle.std.proofs.Common.{◌≡◌, ℕ, List, suc, drop, length}
use Rattle.clause_store.specs.Stored.{clause_in}
use Rattle.fold_model.specs.Images.{numbers_from}
use Rattle.fold_model.specs.Internal as spec
use Rattle.clause_fold.specs.Images.{image_by}
use Rattle.clause_fold.specs.Internal.{internal_among}
use Rattle.clause_fold.specs.Marks.{Are}
use Rattle.clause_fold.proofs.internal.first_lost.Given as goal

abbrev pub invariant-loop-i : goal.invariant-loop-i
invariant-loop-i l = record {
  count : length l.taken ≡ length l.c.sorts;
  left : (xs : List ℕ) → Are l.fn.taken (length l.c.sorts) xs → (ys : List ℕ) × Are l.taken (length l.c.sorts) ys
      × (spec.first_lost (clause_in l.store l.n) (clause_in l.store l.c) (image_by l.scratch l.images) ys (internal_among (clause_in l.store l.n) (numbers_from (suc l.i) (drop l.i l.n.sorts)))
      ≡ spec.first_lost (clause_in l.store l.n) (clause_in l.store l.c) (image_by l.scratch l.images) xs (spec.internal_variables (clause_in l.store l.n)));
}

use Rattle.std.proofs.Common.{◌≡◌, ◌+◌, ◌++◌, suc, drop, length}
use Rattle.std.specs.List.{filter}
use Rattle.term_store.specs.Trees.{trees_at, AreIn, Keeps}
use Rattle.substitution.specs.Weights.{images}
use Rattle.clause_store.specs.Stored.{clause_in}
use Rattle.fold_model.specs.Images.{numbers_from, all_variables}
use Rattle.clause_fold.proofs.Named.{is_outer}
use Rattle.clause_fold.proofs.Placed.{placed}
use Rattle.clause_fold.proofs.matching.images.Given as goal

abbrev pub invariant-loop-i : goal.invariant-loop-i
invariant-loop-i l = record {
  keeps : Keeps l.fn.scratch l.scratch;
  inside : AreIn l.scratch l.terms;
  made : trees_at l.scratch l.terms ++ placed (images l.fn.scratch l.s) (clause_in l.store l.n) (clause_in l.store l.c) (numbers_from (suc l.i) (drop l.i l.n.sorts)) (drop l.named l.with)
      ≡ placed (images l.fn.scratch l.s) (clause_in l.store l.n) (clause_in l.store l.c) (all_variables (clause_in l.store l.n)) l.with;
  left : l.named + length (filter (is_outer (clause_in l.store l.n)) (numbers_from (suc l.i) (drop l.i l.n.sorts))) ≡ length l.with;
}

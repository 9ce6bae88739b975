use Rattle.std.proofs.Common.{length, ◌∙◌}
use Rattle.clp_model.specs.Trees.{variables_in}
use Rattle.clause_store.specs.Stored.{atoms_at}
use Rattle.clause_fold.proofs.StoredParts.{atoms_numbered, numbered_as}
use Rattle.clause_fold.proofs.definitions.body_marks.Goals as goal

pub add_terms-requires-clause-numbered : goal.add_terms-requires-clause-numbered
add_terms-requires-clause-numbered c =
    numbered_as (length c.args.c.now.sorts) (length c.in_ok-marks.marks) (variables_in (atoms_at c.args.store.now c.as_slice.result.now)) (c.in_ok-marks.ensures.count ∙ c.len.ensures)
    (atoms_numbered c.args.store.now c.args.c.now c.requires c.as_slice.result.now c.as_slice.ensures)

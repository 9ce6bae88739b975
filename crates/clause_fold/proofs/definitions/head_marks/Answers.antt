use Rattle.std.proofs.Common.{length, ◌∙◌}
use Rattle.clp_model.specs.Trees.{variables}
use Rattle.clause_store.specs.Stored.{atom_at}
use Rattle.clause_fold.proofs.StoredParts.{head_numbered, numbered_as}
use Rattle.clause_fold.proofs.definitions.head_marks.Goals as goal

pub add_term-requires-clause-numbered : goal.add_term-requires-clause-numbered
add_term-requires-clause-numbered c =
    numbered_as (length c.args.c.now.sorts) (length c.in_ok-marks.marks) (variables (atom_at c.args.store.now c.args.c.now.head)) (c.in_ok-marks.ensures.count ∙ c.len.ensures)
    (head_numbered c.args.store.now c.args.c.now c.requires)

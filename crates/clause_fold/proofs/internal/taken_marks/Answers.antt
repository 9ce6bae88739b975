use Rattle.std.proofs.Common.{length, ◌++◌}
use Rattle.clp_model.specs.Trees.{variables, variables_in}
use Rattle.clause_model.specs.Variables.{rows_variables}
use Rattle.std.specs.Prelude.{map}
use Rattle.clause_store.specs.Stored.{atom_at, atoms_at}
use Rattle.fold_model.specs.Positions.{others, chosen}
use Rattle.clause_fold.specs.Images.{image_by}
use Rattle.clause_fold.proofs.Marked.{marks_are}
use Rattle.clause_fold.proofs.Lost.{images_numbered, head_places, taken_are}
use Rattle.clause_fold.proofs.internal.taken_marks.Goals as goal

pub add_images-requires-clause-numbered : goal.add_images-requires-clause-numbered
add_images-requires-clause-numbered c = images_numbered c.args.store.now c.args.scratch.now c.args.n.now c.args.c.now c.args.images.now _ c.requires.images c.in_ok-marks.ensures.count

pub add_images-requires-clause-places : goal.add_images-requires-clause-places
add_images-requires-clause-places c = head_places c.args.store.now c.args.scratch.now c.args.n.now c.args.c.now c.args.images.now c.requires.definition c.requires.images

pub returns : goal.returns
returns c =
    let store = c.args.store.now in
    let k = length c.args.c.now.sorts in
    let a = variables (atom_at store c.args.c.now.head) in
    let b = variables_in (others c.args.at.now (atoms_at store c.args.c.now.atoms)) in
    let r = rows_variables (chosen c.args.keep.now c.args.c.now.rows) in
    let d = variables_in (map (image_by c.args.scratch.now c.args.images.now) (variables (atom_at store c.args.n.now.head))) in
    taken_are c.add_images.new.marks k a b r d (marks_are c.in_ok-marks.marks c.add_images.new.marks k ((a ++ b) ++ r) d c.in_ok-marks.ensures c.add_images.ensures)

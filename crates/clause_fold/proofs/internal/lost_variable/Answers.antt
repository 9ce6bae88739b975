use Rattle.std.proofs.Common.{◌∙◌}
use Rattle.clause_store.specs.Stored.{clause_in}
use Rattle.fold_model.specs.Internal.{taken_variables}
use Rattle.clause_fold.specs.Images.{image_by}
use Rattle.clause_fold.proofs.Lost.{same_lost}
use Rattle.clause_fold.proofs.internal.lost_variable.Goals as goal

pub returns : goal.returns
returns c = λ s b.
    let store = c.args.store.now in
    c.first_lost.ensures (taken_variables (clause_in store c.args.n.now) (clause_in store c.args.c.now) (image_by c.args.scratch.now c.args.images.now) c.args.at.now c.args.keep.now) c.in_ok-taken.ensures
    ∙ same_lost store c.args.scratch.now c.args.n.now c.args.c.now c.args.images.now s c.args.at.now c.args.keep.now c.requires.definition c.requires.images.count b

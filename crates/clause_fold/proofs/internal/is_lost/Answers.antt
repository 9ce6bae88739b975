use Rattle.std.proofs.Common.{◌≡◌, ℕ, [], ◌∷◌, length, true, ◌∙◌, ap, sym, arith}
use Rattle.clp_model.specs.declared.sort.Sort.{Sort}
use Rattle.clp_model.specs.Clauses.{sort_in}
use Rattle.clause_store.specs.Stored.{atom_at, clause_in}
use Rattle.fold_model.specs.Internal.{number_in}
use Rattle.clause_fold.specs.Images.{image_by}
use Rattle.clause_fold.specs.Internal.{is_free}
use Rattle.clause_fold.proofs.Marked.{adds_as}
use Rattle.clause_fold.proofs.Lost.{image_within, free_as, taken_numbered, passed_here}
use Rattle.clause_fold.proofs.internal.is_lost.Goals as goal

pub is_free-requires : goal.is_free-requires
is_free-requires c = image_within c.args.scratch.now c.args.images.now _ _ c.args.number c.image_at-image.result c.requires.images c.requires.number c.image_at-image.ensures

pub number_in-requires : goal.number_in-requires
number_in-requires c = image_within c.args.scratch.now c.args.images.now _ _ c.args.number c.image_at-image.result c.requires.images c.requires.number c.image_at-image.ensures

pub add-requires : goal.add-requires
add-requires c =
    let scratch = c.args.scratch.now in
    let images = c.args.images.now in
    let x = c.args.number in
    let kind = sort_in c.args.n.now.sorts x in
    let free = free_as scratch images c.args.c.now.sorts c.as_slice-2.result.now kind c.sort_in-kind.result c.args.taken.now x c.image_at-image.result true c.if-not-is_free.ensures c.as_slice-2.ensures
    (c.sort_in-kind.ensures.value ∙ ap (λ (ss : _). sort_in ss x) c.as_slice.ensures) c.image_at-image.ensures in
    let k = taken_numbered scratch images _ c.args.c.now.sorts kind c.args.taken.now x c.requires.images c.requires.number free in
    let same = c.number_in.ensures ∙ ap (λ (t : ℕ). number_in (atom_at scratch t)) c.image_at-image.ensures in
    let p = k.0 in
    let q = k.1 in
    let e = c.requires.count in
    (omega (arith, p, same), omega (arith, q, same, e))

pub returns-clause-passed : goal.returns-clause-passed
returns-clause-passed c = λ f xs are.
    let scratch = c.args.scratch.now in
    let images = c.args.images.now in
    let x = c.args.number in
    let kind = sort_in c.args.n.now.sorts x in
    let free = free_as scratch images c.args.c.now.sorts c.as_slice-2.result.now kind c.sort_in-kind.result c.args.taken.now x c.image_at-image.result true c.if-not-is_free.ensures c.as_slice-2.ensures
    (c.sort_in-kind.ensures.value ∙ ap (λ (ss : _). sort_in ss x) c.as_slice.ensures) c.image_at-image.ensures in
    let same = c.number_in.ensures ∙ ap (λ (t : ℕ). number_in (atom_at scratch t)) c.image_at-image.ensures in
    passed_here (clause_in c.args.store.now c.args.n.now) (clause_in c.args.store.now c.args.c.now) (image_by scratch images) c.args.head.now c.args.taken.now (length c.args.n.now.sorts) x c.requires.head xs are c.add.new.self
    (sym c.if-has.ensures) free (adds_as c.args.taken.now c.add.new.self _ _ (ap (λ (z : ℕ). z ∷ []) same) c.add.ensures)

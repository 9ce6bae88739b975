-- The examples compute.
use Rattle.std.proofs.Common.{refl}
use Rattle.clp_model.specs.declared.tree.Tree.TheBlock as block
use Rattle.clp_model.specs.Trees.{mapped, variables}
use Rattle.linear_model.specs.Gcd.{gcd}
use Rattle.unify_model.specs.Substituting.{substituted}
use Rattle.unify_model.specs.Matching.{matched, met, same_tree}
use Rattle.fold_model.specs.Images.{matched_atoms}
use Rattle.fold_examples.specs.Folds.{OutOfRange, GivenTwice, TooFewPositions, OtherAtom, TwoAtoms, TwoAtomsTheOtherWay, NothingLost, LostInHead, LostInKeptRow, LostByItsSort, DroppedRowNeedsNoInternal, TwoRowsToShow, WithOfWrongLength, WithOfAnyVariable, WithOfNumber, NamedImage}

pub out_of_range : OutOfRange
out_of_range = refl

pub given_twice : GivenTwice
given_twice = refl

pub too_few_positions : TooFewPositions
unfolding matched_atoms matched met mapped block.hidden-the_row-Tree-0 denote.Hole.Carrier.hidden
too_few_positions = refl

pub other_atom : OtherAtom
unfolding matched_atoms matched met mapped block.hidden-the_row-Tree-0 denote.Hole.Carrier.hidden
other_atom = refl

pub two_atoms : TwoAtoms
unfolding matched_atoms matched met same_tree mapped block.hidden-the_row-Tree-0 denote.Hole.Carrier.hidden
two_atoms = refl

pub two_atoms_the_other_way : TwoAtomsTheOtherWay
unfolding substituted mapped block.hidden-the_row-Tree-0 denote.Hole.Carrier.hidden
two_atoms_the_other_way = refl

pub nothing_lost : NothingLost
unfolding variables block.hidden-the_row-Tree-0 denote.Hole.Carrier.hidden
nothing_lost = refl

pub lost_in_head : LostInHead
unfolding variables block.hidden-the_row-Tree-0 denote.Hole.Carrier.hidden
lost_in_head = refl

pub lost_in_kept_row : LostInKeptRow
unfolding variables block.hidden-the_row-Tree-0 denote.Hole.Carrier.hidden
lost_in_kept_row = refl

pub lost_by_its_sort : LostByItsSort
unfolding variables block.hidden-the_row-Tree-0 denote.Hole.Carrier.hidden
lost_by_its_sort = refl

pub dropped_row_needs_no_internal : DroppedRowNeedsNoInternal
unfolding variables block.hidden-the_row-Tree-0 denote.Hole.Carrier.hidden
dropped_row_needs_no_internal = refl

pub two_rows_to_show : TwoRowsToShow
unfolding gcd
two_rows_to_show = refl

pub with_of_wrong_length : WithOfWrongLength
unfolding variables block.hidden-the_row-Tree-0 denote.Hole.Carrier.hidden
with_of_wrong_length = refl

pub with_of_any_variable : WithOfAnyVariable
unfolding variables block.hidden-the_row-Tree-0 denote.Hole.Carrier.hidden
with_of_any_variable = refl

pub with_of_number : WithOfNumber
unfolding variables block.hidden-the_row-Tree-0 denote.Hole.Carrier.hidden
with_of_number = refl

pub named_image : NamedImage
unfolding variables mapped block.hidden-the_row-Tree-0 denote.Hole.Carrier.hidden
named_image = refl

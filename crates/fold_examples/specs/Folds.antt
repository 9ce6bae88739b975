-- Examples of folding.
use Rattle.std.specs.Prelude.{◌≡◌, [], ◌∷◌, codes, Some, None}
use Rattle.clp_model.specs.declared.sort.Sort.TheVariants.{Any, Num}
use Rattle.clp_model.specs.declared.tree.Tree.{Var}
use Rattle.fold_model.specs.Positions.{first_outside, first_repeated}
use Rattle.fold_model.specs.Images.{matched_atoms, bad_with, all_bindings, image_in}
use Rattle.fold_model.specs.Internal.{lost_variable}
use Rattle.fold_model.specs.Folded.{questions, folded_clause}
use Rattle.fold_examples.specs.Samples.{atom, x1, x2, x3, clause, h, above_three, above_zero, both, sum_and_len, turned, both_in_head, bounded, inner_any, inner_number, inner_bounded, row_alone, same}

-- ---- positions
-- of two atoms there is no third
abbrev pub OutOfRange : Type 0
OutOfRange = first_outside 2 (2 ∷ 3 ∷ 0 ∷ []) ≡ Some 3

-- 2 is the first that is given again
abbrev pub GivenTwice : Type 0
GivenTwice = first_repeated (1 ∷ 2 ∷ 3 ∷ 2 ∷ 1 ∷ []) ≡ Some 2

-- ---- matching
-- the definition has two atoms
abbrev pub TooFewPositions : Type 0
TooFewPositions = matched_atoms both sum_and_len (2 ∷ []) ≡ None

-- sum isn't len
abbrev pub OtherAtom : Type 0
OtherAtom = matched_atoms both sum_and_len (1 ∷ 2 ∷ []) ≡ None

-- both(V1,V2,V3) is made at the second and the first atom of h(V1) :- sum(V1,V2), len(V1,V3)
abbrev pub TwoAtoms : Type 0
TwoAtoms = matched_atoms both sum_and_len (2 ∷ 1 ∷ []) ≡ Some turned

-- and h(V1) :- both(V1,V3,V2) is the folded clause
abbrev pub TwoAtomsTheOtherWay : Type 0
TwoAtomsTheOtherWay =
    folded_clause both sum_and_len (image_in both turned) (2 ∷ 1 ∷ []) []
    ≡ clause (atom h (x1 ∷ [])) [] (atom (codes "both") (x1 ∷ x3 ∷ x2 ∷ []) ∷ []) (Any ∷ Num ∷ Num ∷ [])

-- ---- internal variables
-- h(V1) :- {-V2 + 3 < 0}, p(V1,V2) by n(V1) :- {-V2 < 0}, p(V1,V2), with no row kept
abbrev pub NothingLost : Type 0
NothingLost = lost_variable inner_bounded bounded same (1 ∷ []) [] ≡ None

-- h(V1,V2) :- p(V1,V2) by n(V1) :- p(V1,V2): V2 is in the head
abbrev pub LostInHead : Type 0
LostInHead = lost_variable inner_any both_in_head same (1 ∷ []) [] ≡ Some 2

-- h(V1) :- {-V2 + 3 < 0}, p(V1,V2) by n(V1) :- {num(V2)}, p(V1,V2), with its row kept, in which V2 is
abbrev pub LostInKeptRow : Type 0
LostInKeptRow = lost_variable inner_number bounded same (1 ∷ []) (1 ∷ []) ≡ Some 2

-- and without that row
abbrev pub DroppedRowNeedsNoInternal : Type 0
DroppedRowNeedsNoInternal = lost_variable inner_number bounded same (1 ∷ []) [] ≡ None

-- by n(V1) :- p(V1,V2): V2 stands for any value there, and for a number here
abbrev pub LostByItsSort : Type 0
LostByItsSort = lost_variable inner_any bounded same (1 ∷ []) [] ≡ Some 2

-- ---- rows
-- h(V1) :- {-V2 + 3 < 0}, p(V1,V2) by n(V1) :- {-V2 < 0}, p(V1,V2): -V2 < 0 from the rows of the clause, and then the row
-- that is dropped, from -V2 < 0
abbrev pub TwoRowsToShow : Type 0
TwoRowsToShow = questions inner_bounded bounded same [] ≡ record { rows = above_three ∷ []; target = above_zero } ∷ record { rows = above_zero ∷ []; target = above_three } ∷ []

-- ---- with
-- n(V1,V2) :- {-V2 < 0}, p(V1,V1) has one variable that is in none of its atoms
abbrev pub WithOfWrongLength : Type 0
WithOfWrongLength = bad_with row_alone bounded [] ≡ Some 0

-- the first that is given isn't a Num variable
abbrev pub WithOfAnyVariable : Type 0
WithOfAnyVariable = bad_with row_alone bounded (1 ∷ []) ≡ Some 1

abbrev pub WithOfNumber : Type 0
WithOfNumber = bad_with row_alone bounded (2 ∷ []) ≡ None

-- what is named is what the variable becomes
abbrev pub NamedImage : Type 0
NamedImage = image_in row_alone (all_bindings row_alone bounded (2 ∷ []) []) 2 ≡ Var 2

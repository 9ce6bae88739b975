-- fold C at [..] by P with [..] keep [..] show ..: atoms of a clause that are an instance of a definition's give way to an
-- atom of its predicate.
use Rattle.std.specs.Prelude.{ℕ, ◌+◌, List, [], ◌∷◌, map, length, Option, Some, None, option_map, Result, Ok, Err, nat_eq, nat_lt, if◌then◌else◌}
use Rattle.clp_model.specs.declared.tree.Tree.{Tree}
use Rattle.clp_model.specs.declared.predicate.Pred.{Pred}
use Rattle.clp_model.specs.declared.limit.Limit.TheVariants.{Rows}
use Rattle.clp_model.specs.Clauses.{Clause}
use Rattle.unify_model.specs.Substituting.{Binding}
use Rattle.farkas_check.specs.declared.cert.Cert.{Cert}
use Rattle.fold_model.specs.Positions.{first_outside, first_repeated}
use Rattle.fold_model.specs.Images.{matched_atoms, bad_with, all_bindings, image_in}
use Rattle.fold_model.specs.Internal.{lost_variable}
use Rattle.fold_model.specs.Folded.{Question, questions, folded_clause}
use Rattle.map_model.specs.declared.shown.Shown.{Shown}
use Rattle.map_model.specs.declared.shown.Shown.TheVariants.{Given}
use Rattle.map_model.specs.declared.shown.Shows.{Shows}
use Rattle.map_model.specs.declared.shown.Shows.TheVariants.{Each}
use Rattle.map_model.specs.declared.step.Step.{Step}
use Rattle.map_model.specs.declared.step.Step.TheVariants.{Fold}
use Rattle.map_model.specs.declared.refusal.Refusal.{Refusal}
use Rattle.map_model.specs.declared.refusal.Refusal.TheVariants.{NoAtom, NoRow, RepeatedPosition, Unmarked, NoDefinition, NoMatch, BadWith, LostVariable, TooLarge}
use Rattle.map_model.specs.State.{Entry, State, live_at, definition_of}
use Rattle.map_model.specs.Rewriting.{unless_broken, or_next}
use Rattle.map_model.specs.Replacing.{for_entry, in_place}
use Rattle.map_model.specs.ShowingAll.{certificates}

-- ---- the conditions

-- the clause is a definition that was not unfolded
abbrev pub unmarked : ℕ → Entry → Option Refusal
unmarked id e = if e.mark then None else Some (Unmarked id)

-- a position is no atom's, or is given twice
abbrev pub atoms_broken : Clause → List ℕ → Option Refusal
atoms_broken c at = or_next (option_map NoAtom (first_outside (length c.body) at)) (option_map RepeatedPosition (first_repeated at))

-- what is named is not a Num variable of c for each variable of the definition n that is in none of its atoms
abbrev pub with_broken : Clause → Clause → List ℕ → Option Refusal
with_broken n c with = option_map BadWith (bad_with n c with)

-- a position is no row's, or is given twice
abbrev pub rows_broken : Clause → List ℕ → Option Refusal
rows_broken c keep = or_next (option_map NoRow (first_outside (length c.rows) keep)) (option_map RepeatedPosition (first_repeated keep))

-- what the variables of the definition n become in c, by the bindings that its atoms give and those that are named
abbrev pub images : Clause → Clause → List ℕ → List Binding → ℕ → Tree ℕ
images n c with bs = image_in n (all_bindings n c with bs)

-- the image of an internal variable of the definition is not a variable of its own
abbrev pub lost_broken : Clause → Clause → (ℕ → Tree ℕ) → List ℕ → List ℕ → Option Refusal
lost_broken n c s at keep = option_map LostVariable (lost_variable n c s at keep)

-- there are too many rows to show others from
abbrev pub many_rows : Clause → List ℕ → Option Refusal
many_rows n keep = if nat_lt 128 (length keep + length n.rows) then Some (TooLarge Rows) else None

-- the first broken condition once the atoms are matched
abbrev pub images_broken : Clause → Clause → List ℕ → List ℕ → List ℕ → List Binding → Option Refusal
images_broken n c at with keep bs =
    or_next (with_broken n c with)
    (or_next (rows_broken c keep)
    (or_next (lost_broken n c (images n c with bs) at keep) (many_rows n keep)))

-- ---- the step

-- the state with the folded clause, where the rows that are to be shown are
abbrev pub folded_by : State → ℕ → Entry → Clause → (Shows → Step) → Result (List Cert) Refusal → Result State Refusal
folded_by s id e c step (Ok cs) = in_place s id e c (step (Each (map Given cs)))
folded_by s id e c step (Err refusal) = Err refusal

-- the state after a fold by the definition n, with the bindings that make the atoms at the positions of n's, if there are any
abbrev pub fold_matched : State → ℕ → List ℕ → Pred → List ℕ → List ℕ → Shows → Entry → Clause → Option (List Binding) → Result State Refusal
fold_matched s id at by with keep show e n None = Err NoMatch
fold_matched s id at by with keep show e n (Some bs) =
    unless_broken (images_broken n e.clause at with keep bs)
    (folded_by s id e (folded_clause n e.clause (images n e.clause with bs) at keep) (Fold id at by with keep)
    (certificates (questions n e.clause (images n e.clause with bs) keep) show))

-- by the definition of the predicate, if there is one
abbrev pub fold_defined : State → ℕ → List ℕ → Pred → List ℕ → List ℕ → Shows → Entry → Option Clause → Result State Refusal
fold_defined s id at by with keep show e None = Err (NoDefinition by)
fold_defined s id at by with keep show e (Some n) =
    unless_broken (atoms_broken e.clause at) (fold_matched s id at by with keep show e n (matched_atoms n e.clause at))

-- in the clause of this entry
abbrev pub fold_in : State → ℕ → List ℕ → Pred → List ℕ → List ℕ → Shows → Entry → Result State Refusal
fold_in s id at by with keep show e = unless_broken (unmarked id e) (fold_defined s id at by with keep show e (definition_of s by))

-- the state after `fold C at [..] by P with [..] keep [..] show ..`, or its first broken condition
abbrev pub fold_after : State → ℕ → List ℕ → Pred → List ℕ → List ℕ → Shows → Result State Refusal
fold_after s id at by with keep show = for_entry id (fold_in s id at by with keep show) (live_at s id)

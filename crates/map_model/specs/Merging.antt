-- merge C at I,J: of two equal atoms the second goes.
use Rattle.std.specs.Prelude.{ℕ, ◌-◌, not, List, [], ◌∷◌, length, slice_index_or, Option, Some, None, Result, Err, nat_eq, if◌then◌else◌}
use Rattle.clp_model.specs.declared.tree.Tree.{Tree, Var}
use Rattle.clp_meaning.specs.Laws.{without_atom}
use Rattle.fold_model.specs.Positions.{in_range}
use Rattle.map_model.specs.declared.step.Step.TheVariants.{Merge}
use Rattle.map_model.specs.declared.refusal.Refusal.{Refusal}
use Rattle.map_model.specs.declared.refusal.Refusal.TheVariants.{NoClause, NoAtom, RepeatedPosition, NotEqualAtoms}
use Rattle.map_model.specs.State.{Entry, State, live_at}
use Rattle.map_model.specs.Rewriting.{Draft, rewritten, unless_broken}
use Rattle.map_model.specs.SameTree.{same_tree}

-- the atom at this position; positions count from 1
abbrev pub atom_of : List (Tree ℕ) → ℕ → Tree ℕ
atom_of atoms position = slice_index_or atoms (position - 1) (Var 0)

-- the first broken condition on the positions, if there is one
abbrev pub first_broken : List (Tree ℕ) → ℕ → ℕ → Option Refusal
first_broken atoms first second =
    if not (in_range (length atoms) first) then Some (NoAtom first)
    else (if not (in_range (length atoms) second) then Some (NoAtom second)
    else (if nat_eq first second then Some (RepeatedPosition second)
    else (if not (same_tree (atom_of atoms first) (atom_of atoms second)) then Some (NotEqualAtoms first second)
    else None)))

-- the new clause of a merge: the second atom is gone, and the mark stays
abbrev pub merged : Entry → ℕ → ℕ → Draft
merged e id second = record { clause = without_atom e.clause (second - 1); mark = e.mark; parents = id ∷ [] }

-- a merge in the clause of this entry, if there is a live one with this id
abbrev pub merge_of : State → ℕ → ℕ → ℕ → Option Entry → Result State Refusal
merge_of s id first second None = Err (NoClause id)
merge_of s id first second (Some e) =
    unless_broken (first_broken e.clause.body first second)
    (rewritten s (record { dead = id ∷ []; made = merged e id second ∷ []; defines = None; step = Merge id first second }))

-- the state after `merge C at I,J`, or its first broken condition
abbrev pub merge_after : State → ℕ → ℕ → ℕ → Result State Refusal
merge_after s id first second = merge_of s id first second (live_at s id)

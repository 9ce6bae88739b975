-- The images of a definition's internal variables, those that are not in its head.
use Rattle.std.specs.Prelude.{ℕ, not, ◌&&◌, Bool, false, if◌then◌else◌, List, [], ◌∷◌, ◌++◌, map, Option, Some, None}
use Rattle.std.specs.List.{filter}
use Rattle.clp_model.specs.declared.sort.Sort.{Sort}
use Rattle.clp_model.specs.declared.tree.Tree.{Tree, Var, App'}
use Rattle.clp_model.specs.Trees.{variables, variables_in}
use Rattle.clp_model.specs.Clauses.{Clause, sort_in}
use Rattle.clause_model.specs.Variables.{rows_variables}
use Rattle.unify_model.specs.Substituting.{same_sort}
use Rattle.fold_model.specs.Positions.{is_in, chosen, others}
use Rattle.fold_model.specs.Images.{all_variables}

-- by rising number
abbrev pub internal_variables : Clause → List ℕ
internal_variables n = filter (λ x. not (is_in (variables n.head) x)) (all_variables n)

-- the number of a tree that is a variable
abbrev pub number_in : Tree ℕ → ℕ
number_in (Var n) = n
number_in (App' name shape args) = 0

-- the tree is a variable of the sort
abbrev pub is_variable_of : List Sort → Sort → Tree ℕ → Bool
is_variable_of sorts k (Var n) = same_sort (sort_in sorts n) k
is_variable_of sorts k (App' name shape args) = false

-- The variables of the clause that the image of an internal variable may not be: those of its head, of its atoms that
-- stay, of the rows that are kept, and of what the variables of the definition's head become.
abbrev pub taken_variables : Clause → Clause → (ℕ → Tree ℕ) → List ℕ → List ℕ → List ℕ
taken_variables n c s at keep =
    variables c.head ++ (variables_in (others at c.body) ++ (rows_variables (chosen keep c.rows) ++ variables_in (map s (variables n.head))))

-- the image of x is a variable of its sort, and none of these
abbrev pub is_apart : Clause → Clause → (ℕ → Tree ℕ) → List ℕ → ℕ → Bool
is_apart n c s taken x = is_variable_of c.sorts (sort_in n.sorts x) (s x) && not (is_in taken (number_in (s x)))

-- the first of these variables whose image is not a variable of its sort, or is one of those taken, or the image of one
-- before it
abbrev pub first_lost : Clause → Clause → (ℕ → Tree ℕ) → List ℕ → List ℕ → Option ℕ
first_lost n c s taken [] = None
first_lost n c s taken (x ∷ xs) = if is_apart n c s taken x then first_lost n c s (number_in (s x) ∷ taken) xs else Some x

-- the least internal variable that is lost where the atoms at the positions `at` are folded and the rows at the
-- positions `keep` are kept
abbrev pub lost_variable : Clause → Clause → (ℕ → Tree ℕ) → List ℕ → List ℕ → Option ℕ
lost_variable n c s at keep = first_lost n c s (taken_variables n c s at keep) (internal_variables n)

-- What is asked of a definition: its head is a predicate of variables, each another one, and no variable is in its head
-- alone or in its rows alone.
use Rattle.std.specs.Prelude.{ℕ, suc, not, ◌&&◌, ◌||◌, Bool, false, if◌then◌else◌, List, [], ◌∷◌, Option, Some, None}
use Rattle.clp_model.specs.declared.tree.Tree.{Tree, Var, App'}
use Rattle.clp_model.specs.Trees.{variables, variables_in, arguments_of}
use Rattle.clp_model.specs.Clauses.{Clause}
use Rattle.clause_model.specs.Variables.{rows_variables}
use Rattle.fold_model.specs.Positions.{is_in}
use Rattle.fold_model.specs.Images.{all_variables}
use Rattle.fold_model.specs.Internal.{number_in}

-- the tree is a variable, and none of these
abbrev pub is_other_variable : List ℕ → Tree ℕ → Bool
is_other_variable before (Var x) = not (is_in before x)
is_other_variable before (App' name shape args) = false

-- the first place, where the first has this one, of a tree that is no variable, or is one of those before it
abbrev pub first_wrong : List ℕ → ℕ → List (Tree ℕ) → Option ℕ
first_wrong before place [] = None
first_wrong before place (t ∷ ts) = if is_other_variable before t then first_wrong (number_in t ∷ before) (suc place) ts else Some place

-- the first argument of the head that is no variable, or is one that stands before
abbrev pub wrong_argument : Clause → Option ℕ
wrong_argument n = first_wrong [] 1 (arguments_of n.head)

-- the variable is in the first of these lists, and in neither of the others
abbrev pub is_alone : List ℕ → List ℕ → List ℕ → ℕ → Bool
is_alone xs ys zs x = is_in xs x && (not (is_in ys x) && not (is_in zs x))

-- the variable is in the head alone, or in rows alone
abbrev pub is_loose : Clause → ℕ → Bool
is_loose n x =
    is_alone (variables n.head) (rows_variables n.rows) (variables_in n.body) x
    || is_alone (rows_variables n.rows) (variables n.head) (variables_in n.body) x

-- the first of these that is loose
abbrev pub first_loose : Clause → List ℕ → Option ℕ
first_loose n [] = None
first_loose n (x ∷ xs) = if is_loose n x then Some x else first_loose n xs

-- the least variable that is in the head alone, or in rows alone
abbrev pub loose_variable : Clause → Option ℕ
loose_variable n = first_loose n (all_variables n)

-- What a clause becomes where its equations are solved.
use Rattle.std.specs.Prelude.{◌≡◌, ℕ, List, [], ◌∷◌, map, Option, Some, None, All}
use Rattle.clp_model.specs.declared.sort.Sort.{Sort}
use Rattle.clp_model.specs.declared.sort.Sort.TheVariants.{Num}
use Rattle.clp_model.specs.declared.tree.Variable.{Variable}
use Rattle.clp_model.specs.declared.tree.Tree.{Tree, Var, App'}
use Rattle.clp_model.specs.Trees.{mapped}
use Rattle.clp_model.specs.Clauses.{Clause, sort_in}
use Rattle.linear_model.specs.Changes.{renamed}
use Rattle.unify_model.specs.Substituting.{substituted, Binding, image}
use Rattle.unify_model.specs.Equations.{Equation}
use Rattle.unify_model.specs.Unifying.{most_general_unifier}
use Rattle.clause_model.specs.Variables.{rows_variables}

-- a variable with its sort
abbrev pub typed_variable : List Sort → ℕ → Variable
typed_variable sorts n = record { number = n; sort = sort_in sorts n }

abbrev pub typed : List Sort → Tree ℕ → Tree Variable
typed sorts t = mapped (typed_variable sorts) t

abbrev pub typed_equations : List Sort → List (Tree ℕ × Tree ℕ) → List Equation
typed_equations sorts [] = []
typed_equations sorts (e ∷ es) = (typed sorts e.0, typed sorts e.1) ∷ typed_equations sorts es

abbrev pub number_of : Variable → ℕ
number_of v = v.number

-- the tree with the bindings carried out
abbrev pub carried : List Sort → List Binding → Tree ℕ → Tree ℕ
carried sorts bs t = mapped number_of (substituted (image bs) (typed sorts t))

-- the number of a tree that is a variable; the image of a Num variable is one
abbrev pub variable_number : Tree Variable → ℕ
variable_number (Var v) = v.number
variable_number (App' name shape args) = 0

-- what a Num variable becomes
abbrev pub image_number : List Sort → List Binding → ℕ → ℕ
image_number sorts bs n = variable_number (image bs (typed_variable sorts n))

-- the clause with the bindings carried out in its head, rows and atoms
abbrev pub carried_clause : Clause → List Binding → Clause
carried_clause c bs = record {
  head = carried c.sorts bs c.head;
  equations = [];
  rows = map (renamed (image_number c.sorts bs)) c.rows;
  body = map (carried c.sorts bs) c.body;
  sorts = c.sorts;
}

abbrev pub solved_by : Clause → Option (List Binding) → Option Clause
solved_by c None = None
solved_by c (Some bs) = Some (carried_clause c bs)

-- a clause without equations that has the same instances, or None where the equations have no solution
unfoldable pub solved_clause : Clause → Option Clause
solved_clause c = solved_by c (most_general_unifier (typed_equations c.sorts c.equations))

-- each variable of a row is Num
abbrev pub RowsAreNum : Clause → Type 0
RowsAreNum c = All (λ n. sort_in c.sorts n ≡ Num) (rows_variables c.rows)

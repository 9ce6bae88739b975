-- A source clause in which images are put in the places of its variables.
use Rattle.std.specs.Prelude.{◌≡◌, ℕ, List, [], map}
use Rattle.clp_model.specs.declared.sort.Sort.{Sort}
use Rattle.clp_model.specs.declared.tree.Variable.{Variable}
use Rattle.clp_model.specs.declared.tree.Tree.{Tree}
use Rattle.clp_model.specs.Trees.{mapped, mapped_all}
use Rattle.clp_model.specs.Clauses.{Clause}
use Rattle.linear_model.specs.Changes.{renamed}
use Rattle.unify_model.specs.Substituting.{substituted, substituted_all}
use Rattle.unify_model.specs.Equations.{Equation}
use Rattle.clause_model.specs.Solved.{typed_variable, typed, number_of, variable_number}
use Rattle.unify.specs.Pairs.{PairsIn, equations_at}

abbrev pub typed_all : List Sort → List (Tree ℕ) → List (Tree Variable)
typed_all sorts ts = mapped_all (typed_variable sorts) ts

-- the tree with the images in it, its variables with their sorts
abbrev pub with_images : List Sort → (Variable → Tree Variable) → Tree ℕ → Tree Variable
with_images sorts f t = substituted f (typed sorts t)

abbrev pub all_with_images : List Sort → (Variable → Tree Variable) → List (Tree ℕ) → List (Tree Variable)
all_with_images sorts f ts = substituted_all f (typed_all sorts ts)

-- the number of what a variable becomes, where this is a variable
abbrev pub number_by : List Sort → (Variable → Tree Variable) → ℕ → ℕ
number_by sorts f n = variable_number (f (typed_variable sorts n))

-- the clause with the images in it
abbrev pub clause_by : (Variable → Tree Variable) → Clause → Clause
clause_by f c = record {
  head = mapped number_of (with_images c.sorts f c.head);
  equations = [];
  rows = map (renamed (number_by c.sorts f)) c.rows;
  body = map (λ t. mapped number_of (with_images c.sorts f t)) c.body;
  sorts = c.sorts;
}

-- pairs of terms of the store that have these equations
pub record HaveEquations (store : List (Tree Variable)) (pairs : List (ℕ × ℕ)) (es : List Equation) : Type 0 where
  pub within : PairsIn store pairs
  pub are : equations_at store pairs ≡ es

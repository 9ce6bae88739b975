-- Bindings whose trees are terms of a store, and how deep they reach into one another.
use Rattle.std.specs.Prelude.{ℕ, ◌≡◌, suc, ◌<◌, max, List, [], ◌∷◌, length, Option, Some, None, if◌then◌else◌}
use Rattle.clp_model.specs.declared.sort.Sort.{Sort}
use Rattle.clp_model.specs.declared.sort.Sort.TheVariants.{Any, Num}
use Rattle.clp_model.specs.declared.tree.Variable.{Variable}
use Rattle.clp_model.specs.declared.tree.Tree.{Tree}
use Rattle.clp_model.specs.Trees.{variables}
use Rattle.term_store.specs.Trees.{tree_at}
use Rattle.unify_model.specs.Substituting.{Binding, same_variable}
use Rattle.substitution.specs.declared.bindings.Bound.{Bound}

abbrev pub variable_of : ℕ → Sort → Variable
variable_of n s = record { number = n; sort = s }

-- a binding, read in a store
abbrev pub binding : List (Tree Variable) → Bound → Binding
binding store b = (variable_of b.number b.sort, tree_at store b.term)

abbrev pub bound_onto : List (Tree Variable) → List Binding → List Bound → List Binding
bound_onto store bs [] = bs
bound_onto store bs (b ∷ more) = bound_onto store (binding store b ∷ bs) more

-- the bindings, read in a store, the latest first
abbrev pub bound : List (Tree Variable) → List Bound → List Binding
bound store items = bound_onto store [] items

-- the terms are of the store
abbrev pub AreBound : List (Tree Variable) → List Bound → Type 0
AreBound store [] = Unit {0}
AreBound store (b ∷ bs) = (b.term < length store) × AreBound store bs

abbrev pub bound_variables_onto : List Variable → List Bound → List Variable
bound_variables_onto vs [] = vs
bound_variables_onto vs (b ∷ more) = bound_variables_onto (variable_of b.number b.sort ∷ vs) more

-- the variables that are bound, the latest first
abbrev pub bound_variables : List Bound → List Variable
bound_variables items = bound_variables_onto [] items

-- one more than the number of variables behind the first place of this one, and 0 where it stands nowhere
abbrev pub height_of : List Variable → Variable → ℕ
height_of [] v = 0
height_of (w ∷ ws) v = if same_variable w v then suc (length ws) else height_of ws v

abbrev pub greatest_height : List Variable → List Variable → ℕ
greatest_height ws [] = 0
greatest_height ws (v ∷ vs) = max (height_of ws v) (greatest_height ws vs)

-- the greatest height of a tree's variables
abbrev pub height : List Variable → Tree Variable → ℕ
height ws t = greatest_height ws (variables t)

-- ---- the places of the bindings
abbrev pub height_at : Option ℕ → ℕ
height_at None = 0
height_at (Some place) = suc place

-- the places that are noted by number, for each sort, are those of the variables' first bindings
abbrev pub HasPlaces : List Variable → (ℕ → Option ℕ) → (ℕ → Option ℕ) → Type 0
HasPlaces vs any numbers = ((n : ℕ) → height_at (any n) ≡ height_of vs (variable_of n Any)) × ((n : ℕ) → height_at (numbers n) ≡ height_of vs (variable_of n Num))

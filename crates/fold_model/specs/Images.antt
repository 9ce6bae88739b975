-- What the variables of a definition become in a clause that is folded by it.
use Rattle.std.specs.Prelude.{ℕ, suc, nat_eq, not, ◌&&◌, Bool, if◌then◌else◌, List, [], ◌∷◌, ◌++◌, length, Option, Some, None}
use Rattle.std.specs.List.{filter}
use Rattle.clp_model.specs.declared.sort.Sort.{Sort}
use Rattle.clp_model.specs.declared.tree.Variable.{Variable}
use Rattle.clp_model.specs.declared.tree.Tree.{Tree, Var}
use Rattle.clp_model.specs.Trees.{mapped, mapped_all, variables_in}
use Rattle.clp_model.specs.Clauses.{Clause, sort_in}
use Rattle.clause_model.specs.Solved.{typed_variable, number_of}
use Rattle.clause_model.specs.Variables.{is_num}
use Rattle.unify_model.specs.Substituting.{Binding}
use Rattle.unify_model.specs.Matching.{matched, image_at_once}
use Rattle.fold_model.specs.Positions.{in_range, is_in, at_positions}

-- trees whose variables have their sorts
abbrev pub typed_all : List Sort → List (Tree ℕ) → List (Tree Variable)
typed_all sorts ts = mapped_all (typed_variable sorts) ts

-- The bindings of the definition's variables that make, of its atoms in order, the atoms of the clause at the
-- positions, or None where there are none: a Num variable becomes a Num variable, an Any variable any term.
unfoldable pub matched_atoms : Clause → Clause → List ℕ → Option (List Binding)
matched_atoms n c at = matched (typed_all n.sorts n.body) (typed_all c.sorts (at_positions c.head c.body at))

-- as many numbers as there are sorts, from this one on
abbrev pub numbers_from : ℕ → List Sort → List ℕ
numbers_from n [] = []
numbers_from n (s ∷ ss) = n ∷ numbers_from (suc n) ss

-- the variables of a clause by rising number
abbrev pub all_variables : Clause → List ℕ
all_variables c = numbers_from 1 c.sorts

-- the variables that are in no atom of the body, by rising number
abbrev pub outer_variables : Clause → List ℕ
outer_variables n = filter (λ x. not (is_in (variables_in n.body) x)) (all_variables n)

-- the number is that of a Num variable of the clause
abbrev pub is_number_of : Clause → ℕ → Bool
is_number_of c v = in_range (length c.sorts) v && is_num (sort_in c.sorts v)

-- the first place, where the first has this number, of a number that is not that of a Num variable
abbrev pub first_no_number : Clause → ℕ → List ℕ → Option ℕ
first_no_number c place [] = None
first_no_number c place (v ∷ vs) = if is_number_of c v then first_no_number c (suc place) vs else Some place

-- why these numbers are not the images of the variables that are in no atom of the definition: 0 for their number, else
-- the first place whose number is not that of a Num variable of the clause
abbrev pub bad_with : Clause → Clause → List ℕ → Option ℕ
bad_with n c with = if nat_eq (length with) (length (outer_variables n)) then first_no_number c 1 with else Some 0

-- the bindings of these variables of the definition to variables of the clause
abbrev pub named_bindings : Clause → Clause → List ℕ → List ℕ → List Binding
named_bindings n c [] vs = []
named_bindings n c (x ∷ xs) [] = []
named_bindings n c (x ∷ xs) (v ∷ vs) = (typed_variable n.sorts x, Var (typed_variable c.sorts v)) ∷ named_bindings n c xs vs

-- the bindings that are named, and those by the atoms
abbrev pub all_bindings : Clause → Clause → List ℕ → List Binding → List Binding
all_bindings n c with bs = named_bindings n c (outer_variables n) with ++ bs

-- what a variable of the definition becomes
abbrev pub image_in : Clause → List Binding → ℕ → Tree ℕ
image_in n bs x = mapped number_of (image_at_once bs (typed_variable n.sorts x))

-- A step through the internal variables of a definition.
use Rattle.std.specs.Prelude.{◌≡◌, ℕ, not, ◌&&◌, Bool, List, ◌∷◌, length, Some}
use Rattle.std.specs.List.{filter}
use Rattle.clp_model.specs.declared.sort.Sort.{Sort}
use Rattle.clp_model.specs.declared.tree.Tree.{Tree}
use Rattle.clp_model.specs.Trees.{variables}
use Rattle.clp_model.specs.Clauses.{Clause}
use Rattle.fold_model.specs.Positions.{is_in}
use Rattle.fold_model.specs.Internal.{number_in, is_variable_of, first_lost}
use Rattle.clause_fold.specs.Marks.{is_marked, Are}

-- the tree is a variable of the sort that is not marked
abbrev pub is_free : List Sort → Sort → List Bool → Tree ℕ → Bool
is_free sorts k marks t = is_variable_of sorts k t && not (is_marked marks (number_in t))

-- those of these variables that are not in the head
abbrev pub internal_among : Clause → List ℕ → List ℕ
internal_among n xs = filter (λ x. not (is_in (variables n.head) x)) xs

-- the variable x is the first that is lost, whichever come behind it
abbrev pub IsFirstLost : Clause → Clause → (ℕ → Tree ℕ) → List ℕ → ℕ → Type 0
IsFirstLost n c s taken x = (rest : List ℕ) → first_lost n c s taken (internal_among n (x ∷ rest)) ≡ Some x

-- x is not lost, and with what is taken then, which is marked, those behind it are left
pub record IsPassed (n c : Clause) (s : ℕ → Tree ℕ) (taken : List ℕ) (marks : List Bool) (x : ℕ) : Type 0 where
  pub more : List ℕ
  pub are : Are marks (length c.sorts) more
  pub left : (rest : List ℕ) → first_lost n c s taken (internal_among n (x ∷ rest)) ≡ first_lost n c s more (internal_among n rest)

-- What the variables of a definition become in a clause that is folded by it, as terms of a store.
use Rattle.std.specs.Prelude.{◌≡◌, ℕ, List, length, All, Some}
use Rattle.clp_model.specs.declared.sort.Sort.{Sort}
use Rattle.clp_model.specs.declared.tree.Variable.{Variable}
use Rattle.clp_model.specs.declared.tree.Tree.{Tree}
use Rattle.clp_model.specs.Trees.{variables_in}
use Rattle.clp_model.specs.Clauses.{Clause as Meaning}
use Rattle.lin_row.specs.Rows.{at}
use Rattle.term_store.specs.Trees.{tree_at, trees_at, AreIn, IsSmall}
use Rattle.unify_model.specs.Substituting.{Binding}
use Rattle.unify_model.specs.Matching.{image_at_once}
use Rattle.substitution.specs.declared.subst.Subst.{Subst}
use Rattle.substitution.specs.Weights.{images}
use Rattle.clause_store.specs.Stored.{atom_at, HasSort}
use Rattle.clause_loader.specs.WellFormed.{IsNumber}
use Rattle.fold_model.specs.Images.{matched_atoms}
use Rattle.fold_model.specs.Internal.{number_in}

-- the images of the substitution are those that make the atoms of the clause at the positions of the definition's
pub record IsMatched (store : List (Tree Variable)) (s : Subst) (n c : Meaning) (positions : List ℕ) : Type 0 where
  pub bindings : List Binding
  pub matched : matched_atoms n c positions ≡ Some bindings
  pub are : (v : Variable) → images store s v ≡ image_at_once bindings v

-- each image is within the limits of a term
abbrev pub AreSmall : (Variable → Tree Variable) → Type 0
AreSmall f = (v : Variable) → IsSmall (f v)

-- the tree of what variable x becomes; the term of variable 1 is the first
abbrev pub image_by : List (Tree Variable) → List ℕ → ℕ → Tree ℕ
image_by store terms x = atom_at store (at terms x)

-- the same with sorts, of a variable of the definition
abbrev pub image_of : List (Tree Variable) → List ℕ → Variable → Tree Variable
image_of store terms v = tree_at store (at terms v.number)

-- so many terms of the store, each of whose variables has its sort
pub record AreImages (store : List (Tree Variable)) (terms : List ℕ) (total : ℕ) (sorts : List Sort) : Type 0 where
  pub within : AreIn store terms
  pub count : length terms ≡ total
  pub sorted : All (HasSort sorts) (variables_in (trees_at store terms))

-- the terms are those of what each variable becomes
pub record Become (store : List (Tree Variable)) (terms : List ℕ) (s : ℕ → Tree ℕ) : Type 0 where
  pub each : (x : ℕ) → IsNumber (length terms) x → image_by store terms x ≡ s x

-- the numbers are those of what each variable becomes
pub record AreNumbers (numbers : List ℕ) (s : ℕ → Tree ℕ) : Type 0 where
  pub each : (x : ℕ) → IsNumber (length numbers) x → at numbers x ≡ number_in (s x)

-- Clauses and their instances.
use Rattle.std.specs.Prelude.{◌≡◌, ℕ, ℤ, pos, ◌*ℤ◌, ◌+ℤ◌, ◌<ℤ◌, ◌≤ℤ◌, List, [], ◌∷◌, map, All, slice_index_or}
use Rattle.clp_model.specs.declared.sort.Sort.{Sort}
use Rattle.clp_model.specs.declared.sort.Sort.TheVariants.{Any}
use Rattle.clp_model.specs.declared.sort.Rel.{Rel}
use Rattle.clp_model.specs.declared.sort.Rel.TheVariants.{Eq, Le, Lt}
use Rattle.clp_model.specs.declared.tree.Tree.{Tree}
use Rattle.clp_model.specs.declared.clause.SourceClause.{SourceClause}
use Rattle.clp_model.specs.Values.{Valuation, GroundAtom, value_of, atom_of}

-- the sum of the coefficients times their variables, and of a constant, compared with 0
pub record Row : Type 0 where
  pub rel : Rel
  pub pairs : List (ℕ × ℤ)
  pub constant : ℤ

-- a head, equations between trees, rows, body atoms, and a sort for each variable
pub record Clause : Type 0 where
  pub head : Tree ℕ
  pub equations : List (Tree ℕ × Tree ℕ)
  pub rows : List Row
  pub body : List (Tree ℕ)
  pub sorts : List Sort

-- the clause that was read; equations and rows can't be written yet
abbrev pub of_source : SourceClause → Clause
of_source s = record { head = s.head; equations = []; rows = []; body = s.atoms; sorts = s.sorts }

-- the sort of variable n; numbers count from 1
abbrev pub sort_in : List Sort → ℕ → Sort
sort_in sorts n = slice_index_or (Any ∷ sorts) n Any

abbrev pub sum_of : (ℕ → ℤ) → List (ℕ × ℤ) → ℤ
sum_of f [] = pos 0
sum_of f (p ∷ ps) = p.1 *ℤ f p.0 +ℤ sum_of f ps

abbrev pub Compares : Rel → ℤ → Type 0
Compares Eq z = z ≡ pos 0
Compares Le z = z ≤ℤ pos 0
Compares Lt z = z <ℤ pos 0

-- the row holds, said of whole numbers: both sides are multiplied by the denominator
abbrev pub RowHolds : Valuation → Row → Type 0
RowHolds u row = Compares row.rel (sum_of u.number row.pairs +ℤ row.constant *ℤ pos u.whole)

-- both sides become the same value
abbrev pub EquationHolds : List Sort → Valuation → (Tree ℕ × Tree ℕ) → Type 0
EquationHolds sorts u e = value_of (sort_in sorts) u e.0 ≡ value_of (sort_in sorts) u e.1

-- the ground atom that an atom becomes
abbrev pub ground_of : List Sort → Valuation → Tree ℕ → GroundAtom
ground_of sorts u atom = atom_of (value_of (sort_in sorts) u atom)

-- the ground head and the ground body under a valuation that makes all equations and rows hold
pub record Instance (c : Clause) (head : GroundAtom) (body : List GroundAtom) : Type 0 where
  pub valuation : Valuation
  pub equations : All (EquationHolds c.sorts valuation) c.equations
  pub rows : All (RowHolds valuation) c.rows
  pub head_is : head ≡ ground_of c.sorts valuation c.head
  pub body_is : body ≡ map (ground_of c.sorts valuation) c.body

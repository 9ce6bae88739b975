-- What a clause in a store stands for.
use Rattle.std.specs.Prelude.{◌≡◌, ℕ, ◌+◌, ◌<◌, ◌≤◌, List, [], ◌∷◌, length, All, Contains, Err}
use Rattle.clp_model.specs.declared.sort.Sort.{Sort}
use Rattle.clp_model.specs.declared.sort.Sort.TheVariants.{Num}
use Rattle.clp_model.specs.declared.tree.Variable.{Variable}
use Rattle.clp_model.specs.declared.tree.Tree.{Tree}
use Rattle.clp_model.specs.Trees.{total_size, greatest_depth, mapped, mapped_all, variables_in, IsApplication}
use Rattle.clp_model.specs.Clauses.{Clause as Meaning, Row, sort_in}
use Rattle.clp_model.specs.Canonical.{place_in, rows_size}
use Rattle.lin_row.specs.Rows.{IsKept}
use Rattle.clause_model.specs.Variables.{rows_variables}
use Rattle.clause_model.specs.Canonical.{Overflow, TooLarge, IsCanonical, new_clause}
use Rattle.term_store.specs.Trees.{tree_at, trees_at, AreIn, IsOver}
use Rattle.clause_store.specs.declared.clause.Clause.{Clause}
use Rattle.clause_store.specs.declared.clause.RawClause.{RawClause}
use Rattle.clause_store.specs.declared.fault.ClauseFault.{ClauseFault}
use Rattle.clause_store.specs.declared.fault.ClauseFault.TheVariants as fault

abbrev pub number_of : Variable → ℕ
number_of v = v.number

-- the variable with its place in a list as its number
abbrev pub renumber : List ℕ → Variable → Variable
renumber met v = record { number = place_in met v.number; sort = v.sort }

-- the tree of a term, with the number of each variable in its place
abbrev pub atom_at : List (Tree Variable) → ℕ → Tree ℕ
atom_at store term = mapped number_of (tree_at store term)

abbrev pub atoms_at : List (Tree Variable) → List ℕ → List (Tree ℕ)
atoms_at store terms = mapped_all number_of (trees_at store terms)

-- the clause of these terms, rows and sorts; a stored clause has no equations
abbrev pub clause_of : List (Tree Variable) → ℕ → List Row → List ℕ → List Sort → Meaning
clause_of store head rows atoms sorts = record { head = atom_at store head; equations = []; rows = rows; body = atoms_at store atoms; sorts = sorts }

abbrev pub clause_in : List (Tree Variable) → Clause → Meaning
clause_in store c = clause_of store c.head c.rows c.atoms c.sorts

-- the raw clause with these rows in the place of its own
abbrev pub raw_with : List (Tree Variable) → RawClause → List Row → Meaning
raw_with store raw rows = clause_of store raw.head rows raw.atoms raw.sorts

abbrev pub raw_in : List (Tree Variable) → RawClause → Meaning
raw_in store raw = raw_with store raw raw.rows

-- a variable that has its place in the sorts, with its sort there
pub record HasSort (sorts : List Sort) (v : Variable) : Type 0 where
  pub positive : 0 < v.number
  pub within : v.number ≤ length sorts
  pub sort : sort_in sorts v.number ≡ v.sort

-- a variable of a row has its place in the sorts too, and is Num there
abbrev pub IsNum : List Sort → ℕ → Type 0
IsNum sorts n = HasSort sorts (record { number = n; sort = Num })

-- terms of the store that are applications, each of whose variables has its sort, and rows in normal form and in
-- range, each of whose variables is Num
pub record AreParts (store : List (Tree Variable)) (head : ℕ) (rows : List Row) (atoms : List ℕ) (sorts : List Sort) : Type 0 where
  pub within : AreIn store (head ∷ atoms)
  pub applications : All IsApplication (trees_at store (head ∷ atoms))
  pub sorted : All (HasSort sorts) (variables_in (trees_at store (head ∷ atoms)))
  pub kept : All IsKept rows
  pub nums : All (IsNum sorts) (rows_variables rows)

abbrev pub IsRaw : List (Tree Variable) → RawClause → Type 0
IsRaw store raw = AreParts store raw.head raw.rows raw.atoms raw.sorts

-- its parts are of the store, and it is in canonical form and within the limits
pub record IsStored (store : List (Tree Variable)) (c : Clause) : Type 0 where
  pub parts : AreParts store c.head c.rows c.atoms c.sorts
  pub canonical : IsCanonical (clause_in store c)

-- the size of these terms and rows is past 4,096, or the depth of a term past 256
abbrev pub IsLarge : List (Tree Variable) → ℕ → List Row → List ℕ → Type 0
IsLarge store head rows atoms = IsOver (total_size (trees_at store (head ∷ atoms)) + rows_size rows) (greatest_depth (trees_at store (head ∷ atoms)))

-- the fault is the one for which the new clause is refused
abbrev pub IsRefused : Meaning → ClauseFault → Type 0
IsRefused c fault.Overflow = new_clause c ≡ Err Overflow
IsRefused c (fault.TooLarge limit) = new_clause c ≡ Err (TooLarge limit)
IsRefused c fault.NoMemory = Unit {0}

-- a function that gives the numbers of a list different numbers
abbrev pub KeepsApart : (ℕ → ℕ) → List ℕ → Type 0
KeepsApart f ns = (m n : ℕ) → Contains ns m → Contains ns n → f m ≡ f n → m ≡ n

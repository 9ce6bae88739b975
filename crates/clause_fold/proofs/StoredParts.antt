-- The parts of a stored clause.
use Rattle.std.proofs.Common.{◌≡◌, ℕ, ◌+◌, ◌<◌, ◌≤◌, List, [], ◌∷◌, length, sym, subst, arith, All}
use Rattle.clp_model.specs.declared.sort.Sort.{Sort}
use Rattle.clp_model.specs.declared.tree.Variable.{Variable}
use Rattle.clp_model.specs.declared.tree.Tree.{Tree}
use Rattle.clp_model.specs.Trees.{total_size, mapped, mapped_all, variables, variables_in, IsApplication}
use Rattle.clp_model.specs.Canonical.{rows_size}
use Rattle.clp_model.specs.Clauses.{Row}
use Rattle.clp_model.proofs.Trees.{size_positive}
use Rattle.clp_model.proofs.Membership.{Among, first, among_front, among_back}
use Rattle.clp_model.proofs.RenamedTrees.{variables_mapped, all_variables_mapped}
use Rattle.linear_laws.proofs.Lists.{mapped_out}
use Rattle.term_store.specs.Trees.{tree_at, trees_at, AreIn}
use Rattle.clause_model.specs.Variables.{rows_variables}
use Rattle.clause_laws.proofs.Rows.{all_each, each_all}
use Rattle.clause_store.specs.declared.clause.Clause.{Clause}
use Rattle.clause_store.specs.Stored.{number_of, atom_at, atoms_at, clause_in, HasSort, IsNum, IsStored}
use Rattle.clause_store.proofs.Counts.{few_sorts, small_clause, size_in}
use Rattle.clause_loader.specs.WellFormed.{IsNumber}

numbered : (sorts : List Sort) (v : Variable) → HasSort sorts v → IsNumber (length sorts) v.number
numbered sorts v h = (h.positive, h.within)

pub tree_numbered : (sorts : List Sort) (t : Tree Variable) → ((v : Variable) → Among v (variables t) → HasSort sorts v) → All (IsNumber (length sorts)) (variables (mapped number_of t))
tree_numbered sorts t h =
    each_all (IsNumber (length sorts)) (variables (mapped number_of t))
    (λ n m. mapped_out number_of (variables t) (IsNumber (length sorts)) (λ v a. numbered sorts v (h v a)) n (subst (λ (vs : List ℕ). Among n vs) (variables_mapped number_of t) m))

pub trees_numbered : (sorts : List Sort) (ts : List (Tree Variable)) → ((v : Variable) → Among v (variables_in ts) → HasSort sorts v) → All (IsNumber (length sorts)) (variables_in (mapped_all number_of ts))
trees_numbered sorts ts h =
    each_all (IsNumber (length sorts)) (variables_in (mapped_all number_of ts))
    (λ n m. mapped_out number_of (variables_in ts) (IsNumber (length sorts)) (λ v a. numbered sorts v (h v a)) n (subst (λ (vs : List ℕ). Among n vs) (all_variables_mapped number_of ts) m))

length_trees : (store : List (Tree Variable)) (terms : List ℕ) → length terms ≤ total_size (trees_at store terms)
length_trees store [] = omega arith
length_trees store (t ∷ ts) = omega (arith, length_trees store ts, size_positive (tree_at store t))

length_rows : (rows : List Row) → length rows ≤ rows_size rows
length_rows [] = omega arith
length_rows (r ∷ rows) = omega (arith, length_rows rows)

module _ (store : List (Tree Variable)) (c : Clause) (h : IsStored store c) where
  all_sorted : (v : Variable) → Among v (variables_in (trees_at store (c.head ∷ c.atoms))) → HasSort c.sorts v
  all_sorted v m = all_each (HasSort c.sorts) (variables_in (trees_at store (c.head ∷ c.atoms))) h.parts.sorted v m

  pub head_sorted : (v : Variable) → Among v (variables (tree_at store c.head)) → HasSort c.sorts v
  head_sorted v m = all_sorted v (among_front v (variables (tree_at store c.head)) (variables_in (trees_at store c.atoms)) m)

  pub atoms_sorted : (v : Variable) → Among v (variables_in (trees_at store c.atoms)) → HasSort c.sorts v
  atoms_sorted v m = all_sorted v (among_back v (variables (tree_at store c.head)) (variables_in (trees_at store c.atoms)) m)

  pub head_in : c.head < length store
  head_in = h.parts.within.0

  pub head_numbered : All (IsNumber (length c.sorts)) (variables (atom_at store c.head))
  head_numbered = tree_numbered c.sorts (tree_at store c.head) head_sorted

  pub atoms_in : (terms : List ℕ) → terms ≡ c.atoms → AreIn store terms
  atoms_in terms e = let P : List ℕ → Type 0 = AreIn store in subst P (sym e) h.parts.within.1

  pub atoms_numbered : (terms : List ℕ) → terms ≡ c.atoms → All (IsNumber (length c.sorts)) (variables_in (atoms_at store terms))
  atoms_numbered terms e = let P : List ℕ → Type 0 = λ ts. All (IsNumber (length c.sorts)) (variables_in (atoms_at store ts)) in subst P (sym e) (trees_numbered c.sorts (trees_at store c.atoms) atoms_sorted)

  pub rows_numbered : (rows : List Row) → rows ≡ c.rows → All (IsNumber (length c.sorts)) (rows_variables rows)
  rows_numbered rows e =
      let P : List Row → Type 0 = λ rs. All (IsNumber (length c.sorts)) (rows_variables rs) in
      subst P (sym e) (each_all (IsNumber (length c.sorts)) (rows_variables c.rows) (λ n m. let k = all_each (IsNum c.sorts) (rows_variables c.rows) h.parts.nums n m in (k.positive, k.within)))

  pub few_variables : length c.sorts ≤ 256
  few_variables = few_sorts (clause_in store c) h.canonical.limits

  clause_is_small : total_size (trees_at store (c.head ∷ c.atoms)) + rows_size c.rows ≤ 4096
  clause_is_small = let s = small_clause (clause_in store c) h.canonical.limits in omega (arith, s, size_in store c.head c.rows c.atoms c.sorts)

  pub few_atoms : length c.atoms ≤ 4096
  few_atoms = omega (arith, clause_is_small, length_trees store c.atoms)

  pub few_rows : length c.rows ≤ 4096
  few_rows = omega (arith, clause_is_small, length_rows c.rows)

  pub head_application : IsApplication (tree_at store c.head)
  head_application = all_each IsApplication (trees_at store (c.head ∷ c.atoms)) h.parts.applications (tree_at store c.head) first

-- the same count by another name
pub numbered_as : (j k : ℕ) (ns : List ℕ) → k ≡ j → All (IsNumber j) ns → All (IsNumber k) ns
numbered_as j k ns e h = subst (λ (z : ℕ). All (IsNumber z) ns) (sym e) h

-- The parts of a clause without one of its atoms.
use Rattle.std.proofs.Common.{ℕ, zero, suc, List, [], ◌∷◌, ◌++◌, remove}
use Rattle.std.specs.List.{AllByRecursion}
use Rattle.std.proofs.lemmas.List.Elements.{All-from_recursion, recursion_from_All}
use Rattle.clp_model.specs.declared.sort.Sort.{Sort}
use Rattle.clp_model.specs.declared.tree.Variable.{Variable}
use Rattle.clp_model.specs.declared.tree.Tree.{Tree}
use Rattle.clp_model.specs.Trees.{variables, variables_in, IsApplication}
use Rattle.clp_model.specs.Clauses.{Row}
use Rattle.term_store.specs.Trees.{tree_at, trees_at, AreIn}
use Rattle.clause_store.specs.Stored.{HasSort, AreParts}

module _ {X : Type 0} (P : X → Type 0) where
  each_left : (xs ys : List X) → AllByRecursion P (xs ++ ys) → AllByRecursion P xs
  each_left [] ys h = tt
  each_left (x ∷ xs) ys h = (h.0, each_left xs ys h.1)

  each_right : (xs ys : List X) → AllByRecursion P (xs ++ ys) → AllByRecursion P ys
  each_right [] ys h = h
  each_right (x ∷ xs) ys h = each_right xs ys h.1

  each_both : (xs ys : List X) → AllByRecursion P xs → AllByRecursion P ys → AllByRecursion P (xs ++ ys)
  each_both [] ys h k = k
  each_both (x ∷ xs) ys h k = (h.0, each_both xs ys h.1 k)

module _ (store : List (Tree Variable)) where
  in_without : (atoms : List ℕ) (j : ℕ) → AreIn store atoms → AreIn store (remove atoms j)
  in_without [] zero h = tt
  in_without [] (suc j) h = tt
  in_without (a ∷ atoms) zero h = h.1
  in_without (a ∷ atoms) (suc j) h = (h.0, in_without atoms j h.1)

  trees_without : (P : Tree Variable → Type 0) (atoms : List ℕ) (j : ℕ) → AllByRecursion P (trees_at store atoms) → AllByRecursion P (trees_at store (remove atoms j))
  trees_without P [] zero h = tt
  trees_without P [] (suc j) h = tt
  trees_without P (a ∷ atoms) zero h = h.1
  trees_without P (a ∷ atoms) (suc j) h = (h.0, trees_without P atoms j h.1)

  variables_without : (P : Variable → Type 0) (atoms : List ℕ) (j : ℕ) → AllByRecursion P (variables_in (trees_at store atoms)) → AllByRecursion P (variables_in (trees_at store (remove atoms j)))
  variables_without P [] zero h = tt
  variables_without P [] (suc j) h = tt
  variables_without P (a ∷ atoms) zero h = each_right P (variables (tree_at store a)) (variables_in (trees_at store atoms)) h
  variables_without P (a ∷ atoms) (suc j) h =
      each_both P (variables (tree_at store a)) (variables_in (trees_at store (remove atoms j)))
      (each_left P (variables (tree_at store a)) (variables_in (trees_at store atoms)) h)
      (variables_without P atoms j (each_right P (variables (tree_at store a)) (variables_in (trees_at store atoms)) h))

  pub parts_without : (head : ℕ) (rows : List Row) (atoms : List ℕ) (sorts : List Sort) (j : ℕ) → AreParts store head rows atoms sorts → AreParts store head rows (remove atoms j) sorts
  parts_without head rows atoms sorts j parts =
      let applied = recursion_from_All IsApplication (trees_at store (head ∷ atoms)) parts.applications in
      let sorted = recursion_from_All (HasSort sorts) (variables_in (trees_at store (head ∷ atoms))) parts.sorted in
      let front : List Variable = variables (tree_at store head) in
      record {
        within = (parts.within.0, in_without atoms j parts.within.1);
        applications = All-from_recursion IsApplication (trees_at store (head ∷ remove atoms j)) (applied.0, trees_without IsApplication atoms j applied.1);
        sorted = All-from_recursion (HasSort sorts) (variables_in (trees_at store (head ∷ remove atoms j)))
            (each_both (HasSort sorts) front (variables_in (trees_at store (remove atoms j))) (each_left (HasSort sorts) front (variables_in (trees_at store atoms)) sorted)
            (variables_without (HasSort sorts) atoms j (each_right (HasSort sorts) front (variables_in (trees_at store atoms)) sorted)));
        kept = parts.kept;
        nums = parts.nums;
      }

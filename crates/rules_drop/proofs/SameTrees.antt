-- The test whether two atoms of a clause are equal.
use Rattle.std.proofs.Common.{◌≡◌, ℕ, zero, suc, ◌<◌, Bool, true, false, List, [], ◌∷◌, length, get_or, refl, ap, ◌∙◌, sym, subst, arith, All, nat_eq}
use Rattle.std.specs.Prelude.{IsTrue, ◌↔◌, slice_index_or}
use Rattle.std.proofs.lemmas.Bool.Decides.{nat_tests}
use Rattle.std.proofs.lemmas.Slice.Eq.{bytes_eq-Decides}
use Rattle.std.proofs.lemmas.List.Elements.{All-contains, All-from_recursion}
use Rattle.clp_model.specs.declared.sort.Sort.{Sort}
use Rattle.clp_model.specs.declared.tree.Variable.{Variable}
use Rattle.clp_model.specs.declared.tree.Tree.{Tree, Var, App', Row_of-Tree, end_of-Tree, more_of-Tree}
use Rattle.clp_model.specs.Trees.{mapped, variables, variables_in}
use Rattle.clause_model.specs.Solved.{typed_variable}
use Rattle.clp_model.proofs.Membership.{Among, all_among, from_among, among_front, among_back}
use Rattle.clp_model.proofs.RenamedTrees.{mapped_twice, mapped_to_itself}
use Rattle.term_store.specs.Trees.{tree_at, trees_at, AreIn}
use Rattle.clause_store.specs.Stored.{number_of, atoms_at, HasSort}
use Rattle.map_model.specs.SameTree.{same_tree, same_trees}
use Rattle.rules_drop.proofs.SameTree.{same_tree_is}

mutual
  unfolding same_tree

  same_self : (t : Tree ℕ) → same_tree t t ≡ true
  same_self (Var n) = let e : nat_eq n n ≡ true = grind (arith, nat_tests) in e
  same_self (App' f shape xs) = let e = (bytes_eq-Decides f f).1 refl in let h = same_all_self xs in rw (e, h) refl

  same_all_self : {m : _} (ts : Row_of-Tree ℕ m) → same_trees ts ts ≡ true
  same_all_self end_of-Tree = refl
  same_all_self (more_of-Tree t ts) = let a = same_self t in let b = same_all_self ts in rw (a, b) refl

-- the variable of this number and its sort
has_itself : (sorts : List Sort) (v : Variable) → HasSort sorts v → typed_variable sorts v.number ≡ v
has_itself sorts v h = let f : Sort → Variable = λ s. record { number = v.number; sort = s } in ap f h.sort

-- a tree whose variables have their sorts is known by its numbers
numbers_tell : (sorts : List Sort) (t : Tree Variable) → All (HasSort sorts) (variables t) → mapped (typed_variable sorts) (mapped number_of t) ≡ t
numbers_tell sorts t h =
    mapped_twice number_of (typed_variable sorts) (λ v. v) t (λ v among. has_itself sorts v (All-contains (HasSort sorts) (variables t) v h (from_among among))) ∙ mapped_to_itself (λ v. v) t (λ v among. refl)

same_numbers : (sorts : List Sort) (t u : Tree Variable) → All (HasSort sorts) (variables t) → All (HasSort sorts) (variables u) → mapped number_of t ≡ mapped number_of u → t ≡ u
same_numbers sorts t u h k e = sym (numbers_tell sorts t h) ∙ ap (mapped (typed_variable sorts)) e ∙ numbers_tell sorts u k

-- the test on numbered trees tells whether the trees are equal
decided : (r s : Bool) (A : Type 0) → (IsTrue r ↔ A) → (A → s ≡ true) → (s ≡ true → A) → r ≡ s
decided true s A h f g = sym (f (h.0 refl))
decided false true A h f g = h.1 (g refl)
decided false false A h f g = refl

pub same_decided : (sorts : List Sort) (t u : Tree Variable) (r : Bool) → All (HasSort sorts) (variables t) → All (HasSort sorts) (variables u) → (IsTrue r ↔ (t ≡ u)) → r ≡ same_tree (mapped number_of t) (mapped number_of u)
same_decided sorts t u r h k d =
    decided r (same_tree (mapped number_of t) (mapped number_of u)) (t ≡ u) d
    (λ e. ap (λ x. same_tree (mapped number_of t) (mapped number_of x)) (sym e) ∙ same_self (mapped number_of t))
    (λ e. same_numbers sorts t u h k (same_tree_is (mapped number_of t) (mapped number_of u) e))

-- ---- the atoms of a clause
pub length_atoms : (store : List (Tree Variable)) (terms : List ℕ) → length (atoms_at store terms) ≡ length terms
length_atoms store [] = refl
length_atoms store (t ∷ ts) = ap suc (length_atoms store ts)

pub atom_at_place : (store : List (Tree Variable)) (terms : List ℕ) (i t : ℕ) → i < length terms → t ≡ get_or terms i t → slice_index_or (atoms_at store terms) i (Var 0) ≡ mapped number_of (tree_at store t)
atom_at_place store [] i t h e = absurd (omega arith)
atom_at_place store (u ∷ us) zero t h e = ap (λ x. mapped number_of (tree_at store x)) (sym e)
atom_at_place store (u ∷ us) (suc i) t h e = atom_at_place store us i t (omega arith) e

pub term_in : (store : List (Tree Variable)) (terms : List ℕ) (i t : ℕ) → AreIn store terms → i < length terms → t ≡ get_or terms i t → t < length store
term_in store [] i t a h e = absurd (omega arith)
term_in store (u ∷ us) zero t a h e = let P : ℕ → Type 0 = λ x. x < length store in subst P (sym e) a.0
term_in store (u ∷ us) (suc i) t a h e = term_in store us i t a.1 (omega arith) e

-- the variables of one term are among those of all
among_all : (store : List (Tree Variable)) (terms : List ℕ) (i t : ℕ) (v : Variable) → i < length terms → t ≡ get_or terms i t → Among v (variables (tree_at store t)) → Among v (variables_in (trees_at store terms))
among_all store [] i t v h e a = absurd (omega arith)
among_all store (u ∷ us) zero t v h e a =
    let P : ℕ → Type 0 = λ x. Among v (variables (tree_at store x)) in
    among_front v (variables (tree_at store u)) (variables_in (trees_at store us)) (subst P e a)
among_all store (u ∷ us) (suc i) t v h e a = among_back v (variables (tree_at store u)) (variables_in (trees_at store us)) (among_all store us i t v (omega arith) e a)

pub term_sorted : (sorts : List Sort) (store : List (Tree Variable)) (head : ℕ) (terms : List ℕ) (i t : ℕ) → All (HasSort sorts) (variables_in (trees_at store (head ∷ terms))) → i < length terms → t ≡ get_or terms i t
    → All (HasSort sorts) (variables (tree_at store t))
term_sorted sorts store head terms i t h k e = All-from_recursion (HasSort sorts) (variables (tree_at store t)) (all_among (HasSort sorts) (variables (tree_at store t))
    (λ v a. All-contains (HasSort sorts) (variables_in (trees_at store (head ∷ terms))) v h (from_among (among_back v (variables (tree_at store head)) (variables_in (trees_at store terms)) (among_all store terms i t v k e a)))))

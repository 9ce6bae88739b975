-- The arguments of a definition's head.
use Rattle.std.proofs.Common.{◌≡◌, ℕ, zero, suc, ◌+◌, ◌<◌, ◌≤◌, ◌||◌, List, [], ◌∷◌, ◌++◌, length, map, take, drop, get_or, nat_eq, refl, ap, ◌∙◌, sym, subst, arith, add-one, Bool, true, false, Option, Some}
use Rattle.std.specs.Prelude.{not, if◌then◌else◌}
use Rattle.std.proofs.Math.Seq.{drop-cons, take-suc}
use Rattle.clp_model.specs.declared.sort.Sort.{Sort}
use Rattle.clp_model.specs.declared.tree.Variable.{Variable}
use Rattle.clp_model.specs.declared.tree.Tree.{Tree, Var, App, App'}
use Rattle.clp_model.specs.Trees.{size, total_size, mapped, mapped_all, arguments_of, IsApplication}
use Rattle.clp_model.proofs.Trees.{mapped_app, mapped_var, arguments_of_app, size_app, size_positive, not_application_var}
use Rattle.term_store.specs.Trees.{variable, tree_at, trees_at, AreIn, IsSmall}
use Rattle.clause_store.specs.Stored.{number_of, atom_at, atoms_at}
use Rattle.fold_model.specs.Positions.{is_in}
use Rattle.fold_model.specs.Internal.{number_in}
use Rattle.fold_model.specs.Definitions.{is_other_variable, first_wrong}

pub number_var : (tree : Tree Variable) (n : ℕ) (s : Sort) → tree ≡ variable n s → number_in (mapped number_of tree) ≡ n
number_var tree n s is = ap (λ (t : Tree Variable). number_in (mapped number_of t)) is ∙ ap number_in (mapped_var number_of (record { number = n; sort = s }))

pub number_app : (tree : Tree Variable) (name : List ℕ) (ts : List (Tree Variable)) → tree ≡ App name ts → number_in (mapped number_of tree) ≡ 0
number_app tree name ts is = ap (λ (t : Tree Variable). number_in (mapped number_of t)) is ∙ ap number_in (mapped_app number_of name ts)

pub other_var : (before : List ℕ) (tree : Tree Variable) (n : ℕ) (s : Sort) → tree ≡ variable n s → is_other_variable before (mapped number_of tree) ≡ not (is_in before n)
other_var before tree n s is = ap (λ (t : Tree Variable). is_other_variable before (mapped number_of t)) is ∙ ap (is_other_variable before) (mapped_var number_of (record { number = n; sort = s }))

pub other_app : (before : List ℕ) (tree : Tree Variable) (name : List ℕ) (ts : List (Tree Variable)) → tree ≡ App name ts → is_other_variable before (mapped number_of tree) ≡ false
other_app before tree name ts is = ap (λ (t : Tree Variable). is_other_variable before (mapped number_of t)) is ∙ ap (is_other_variable before) (mapped_app number_of name ts)

pub arguments_are : (tree : Tree Variable) (name : List ℕ) (ts : List (Tree Variable)) → tree ≡ App name ts → arguments_of (mapped number_of tree) ≡ mapped_all number_of ts
arguments_are tree name ts is = ap (λ (t : Tree Variable). arguments_of (mapped number_of t)) is ∙ ap arguments_of (mapped_app number_of name ts) ∙ arguments_of_app name (mapped_all number_of ts)

length_below : (store : List (Tree Variable)) (terms : List ℕ) → length terms ≤ total_size (trees_at store terms)
length_below store [] = omega arith
length_below store (t ∷ ts) = omega (arith, length_below store ts, size_positive (tree_at store t))

pub few_arguments : (store : List (Tree Variable)) (tree : Tree Variable) (name : List ℕ) (terms : List ℕ) → tree ≡ App name (trees_at store terms) → IsSmall tree → length terms ≤ 4096
few_arguments store tree name terms is small =
    let a = ap size is ∙ size_app name (trees_at store terms) in
    let s = small.size in
    omega (arith, a, s, length_below store terms)

-- ---- the first wrong one
-- the order of those before doesn't count
wrong_same : (xs ys : List ℕ) (place : ℕ) (ts : List (Tree ℕ)) → ((k : ℕ) → is_in xs k ≡ is_in ys k) → first_wrong xs place ts ≡ first_wrong ys place ts
wrong_same xs ys place [] h = refl
wrong_same xs ys place (t ∷ ts) h =
    let a = other_same t in
    let b = wrong_same (number_in t ∷ xs) (number_in t ∷ ys) (suc place) ts (λ k. ap (λ (c : Bool). nat_eq (number_in t) k || c) (h k)) in
    cc
  where
    other_same : (t : Tree ℕ) → is_other_variable xs t ≡ is_other_variable ys t
    other_same (Var n) = ap not (h n)
    other_same (App' name shape args) = refl

put_last : (xs : List ℕ) (p k : ℕ) → is_in (p ∷ xs) k ≡ is_in (xs ++ p ∷ []) k
put_last [] p k = refl
put_last (x ∷ xs) p k = swap (nat_eq p k) (nat_eq x k) (is_in xs k) ∙ ap (λ c. nat_eq x k || c) (put_last xs p k)
  where
    swap : (a b c : Bool) → (a || (b || c)) ≡ (b || (a || c))
    swap true true c = refl
    swap true false c = refl
    swap false b c = refl

numbers_push : (store : List (Tree Variable)) (ts : List ℕ) (t : ℕ) → map number_in (atoms_at store (ts ++ t ∷ [])) ≡ map number_in (atoms_at store ts) ++ number_in (atom_at store t) ∷ []
numbers_push store [] t = refl
numbers_push store (u ∷ ts) t = ap (λ (v : List ℕ). number_in (atom_at store u) ∷ v) (numbers_push store ts t)

module _ (store : List (Tree Variable)) (terms : List ℕ) (i d : ℕ) (within : i < length terms) where
  abbrev before : List ℕ
  before = map number_in (atoms_at store (take i terms))

  -- those before, with the one at place i
  more : map number_in (atoms_at store (take (i + 1) terms)) ≡ before ++ number_in (atom_at store (get_or terms i d)) ∷ []
  more = ap (λ (k : ℕ). map number_in (atoms_at store (take k terms))) (add-one i) ∙ ap (λ (ts : List ℕ). map number_in (atoms_at store ts)) (take-suc terms i d within) ∙ numbers_push store (take i terms) (get_or terms i d)

  wrong_from : first_wrong before (suc i) (atoms_at store (drop i terms))
      ≡ (if is_other_variable before (atom_at store (get_or terms i d)) then first_wrong (map number_in (atoms_at store (take (i + 1) terms))) (suc (i + 1)) (atoms_at store (drop (i + 1) terms)) else Some (suc i))
  wrong_from =
      let t = atom_at store (get_or terms i d) in
      ap (λ (ts : List ℕ). first_wrong before (suc i) (atoms_at store ts)) (drop-cons terms i d within)
      ∙ (ap (λ (k : ℕ). if is_other_variable before t then first_wrong (number_in t ∷ before) (suc k) (atoms_at store (drop k terms)) else Some (suc i)) (sym (add-one i))
      ∙ ap (λ (o : Option ℕ). if is_other_variable before t then o else Some (suc i))
      (wrong_same (number_in t ∷ before) (before ++ number_in t ∷ []) (suc (i + 1)) (atoms_at store (drop (i + 1) terms)) (put_last before (number_in t))
      ∙ ap (λ (xs : List ℕ). first_wrong xs (suc (i + 1)) (atoms_at store (drop (i + 1) terms))) (sym more)))

  pub wrong_here : is_other_variable before (atom_at store (get_or terms i d)) ≡ false → first_wrong before (suc i) (atoms_at store (drop i terms)) ≡ Some (suc i)
  wrong_here e = wrong_from ∙ ap (λ (b : Bool). if b then first_wrong (map number_in (atoms_at store (take (i + 1) terms))) (suc (i + 1)) (atoms_at store (drop (i + 1) terms)) else Some (suc i)) e

  pub wrong_next : is_other_variable before (atom_at store (get_or terms i d)) ≡ true
      → first_wrong (map number_in (atoms_at store (take (i + 1) terms))) (suc (i + 1)) (atoms_at store (drop (i + 1) terms)) ≡ first_wrong before (suc i) (atoms_at store (drop i terms))
  wrong_next e = sym (wrong_from ∙ ap (λ (b : Bool). if b then first_wrong (map number_in (atoms_at store (take (i + 1) terms))) (suc (i + 1)) (atoms_at store (drop (i + 1) terms)) else Some (suc i)) e)

pub front_in : (store : List (Tree Variable)) (terms : List ℕ) (i : ℕ) → AreIn store terms → AreIn store (take i terms)
front_in store [] zero h = tt
front_in store [] (suc i) h = tt
front_in store (t ∷ ts) zero h = tt
front_in store (t ∷ ts) (suc i) h = (h.0, front_in store ts i h.1)

pub no_variable : (tree : Tree Variable) (n : ℕ) (s : Sort) → tree ≡ variable n s → ¬ IsApplication tree
no_variable tree n s is h = not_application_var (record { number = n; sort = s }) (subst IsApplication is h)

-- What is put into a tree is part of it.
use Rattle.std.proofs.Common.{◌≡◌, ℕ, ◌+◌, ◌<◌, ◌≤◌, max, List, [], ◌∷◌, ◌++◌, refl, ap, ◌∙◌, sym, subst, arith, inl, inr}
use Rattle.clp_model.specs.declared.tree.Tree.{Tree, Var, App', Row_of-Tree, end_of-Tree, more_of-Tree}
use Rattle.clp_model.specs.Trees.{size, sizes, depth, depths, total_size, greatest_depth, variables, variables_in_row, variables_in}
use Rattle.clp_model.proofs.Membership.{Among, first, next, among_front, among_back, among_either}
use Rattle.unify_model.specs.Substituting.{substituted, substituted_row, substituted_all}
use Rattle.unify_laws.proofs.Solved.{among_cases}

mutual
  unfolding substituted variables

  -- the variables of the image of a variable stand in the substituted tree
  goes_to : {V W : Type 0} (f : V → Tree W) (v : V) (w : W) (t : Tree V) → Among v (variables t) → Among w (variables (f v)) → Among w (variables (substituted f t))
  goes_to f v w (Var x) a b = among_cases a (λ q. subst (λ z. Among w (variables (f z))) q b) (λ k. elim k [ ])
  goes_to f v w (App' name shape args) a b = row_goes_to f v w args a b

  row_goes_to : {V W : Type 0} {m : _} (f : V → Tree W) (v : V) (w : W) (ts : Row_of-Tree V m) → Among v (variables_in_row ts) → Among w (variables (f v)) → Among w (variables_in_row (substituted_row f ts))
  row_goes_to f v w end_of-Tree a b = elim a [ ]
  row_goes_to f v w (more_of-Tree t ts) a b = elim (among_either v (variables t) (variables_in_row ts) a) [
    | inl k ↦ among_front w (variables (substituted f t)) (variables_in_row (substituted_row f ts)) (goes_to f v w t k b)
    | inr k ↦ among_back w (variables (substituted f t)) (variables_in_row (substituted_row f ts)) (row_goes_to f v w ts k b)
  ]

pub all_goes_to : {V W : Type 0} (f : V → Tree W) (v : V) (w : W) (ts : List (Tree V)) → Among v (variables_in ts) → Among w (variables (f v)) → Among w (variables_in (substituted_all f ts))
all_goes_to f v w [] a b = elim a [ ]
all_goes_to f v w (t ∷ ts) a b = elim (among_either v (variables t) (variables_in ts) a) [
  | inl k ↦ among_front w (variables (substituted f t)) (variables_in (substituted_all f ts)) (goes_to f v w t k b)
  | inr k ↦ among_back w (variables (substituted f t)) (variables_in (substituted_all f ts)) (all_goes_to f v w ts k b)
]

mutual
  unfolding substituted variables size

  part_size : {V W : Type 0} (f : V → Tree W) (v : V) (t : Tree V) → Among v (variables t) → size (f v) ≤ size (substituted f t)
  part_size f v (Var x) a = among_cases a (λ q. let e = ap (λ z. size (f z)) q in omega (arith, e)) (λ k. elim k [ ])
  part_size f v (App' name shape args) a = omega (arith, row_part_size f v args a)

  row_part_size : {V W : Type 0} {m : _} (f : V → Tree W) (v : V) (ts : Row_of-Tree V m) → Among v (variables_in_row ts) → size (f v) ≤ sizes (substituted_row f ts)
  row_part_size f v end_of-Tree a = elim a [ ]
  row_part_size f v (more_of-Tree t ts) a = elim (among_either v (variables t) (variables_in_row ts) a) [
    | inl k ↦ omega (arith, part_size f v t k)
    | inr k ↦ omega (arith, row_part_size f v ts k)
  ]

mutual
  unfolding substituted variables depth

  part_depth : {V W : Type 0} (f : V → Tree W) (v : V) (t : Tree V) → Among v (variables t) → depth (f v) ≤ depth (substituted f t)
  part_depth f v (Var x) a = among_cases a (λ q. let e = ap (λ z. depth (f z)) q in omega (arith, e)) (λ k. elim k [ ])
  part_depth f v (App' name shape args) a = omega (arith, row_part_depth f v args a)

  row_part_depth : {V W : Type 0} {m : _} (f : V → Tree W) (v : V) (ts : Row_of-Tree V m) → Among v (variables_in_row ts) → depth (f v) ≤ depths (substituted_row f ts)
  row_part_depth f v end_of-Tree a = elim a [ ]
  row_part_depth f v (more_of-Tree t ts) a = elim (among_either v (variables t) (variables_in_row ts) a) [
    | inl k ↦ omega (arith, part_depth f v t k)
    | inr k ↦ omega (arith, row_part_depth f v ts k)
  ]

pub all_part_size : {V W : Type 0} (f : V → Tree W) (v : V) (ts : List (Tree V)) (k : ℕ) → Among v (variables_in ts) → ((t : Tree W) → Among t (substituted_all f ts) → size t ≤ k) → size (f v) ≤ k
all_part_size f v [] k a h = elim a [ ]
all_part_size f v (t ∷ ts) k a h = elim (among_either v (variables t) (variables_in ts) a) [
  | inl m ↦ omega (arith, part_size f v t m, h (substituted f t) first)
  | inr m ↦ all_part_size f v ts k m (λ u b. h u (next b))
]

pub all_part_depth : {V W : Type 0} (f : V → Tree W) (v : V) (ts : List (Tree V)) (k : ℕ) → Among v (variables_in ts) → ((t : Tree W) → Among t (substituted_all f ts) → depth t ≤ k) → depth (f v) ≤ k
all_part_depth f v [] k a h = elim a [ ]
all_part_depth f v (t ∷ ts) k a h = elim (among_either v (variables t) (variables_in ts) a) [
  | inl m ↦ omega (arith, part_depth f v t m, h (substituted f t) first)
  | inr m ↦ all_part_depth f v ts k m (λ u b. h u (next b))
]

pub size_among : {V : Type 0} (t : Tree V) (ts : List (Tree V)) → Among t ts → size t ≤ total_size ts
size_among t [] a = elim a [ ]
size_among t (u ∷ ts) a = among_cases a (λ q. let e = ap size q in omega (arith, e)) (λ k. omega (arith, size_among t ts k))

pub depth_among : {V : Type 0} (t : Tree V) (ts : List (Tree V)) → Among t ts → depth t ≤ greatest_depth ts
depth_among t [] a = elim a [ ]
depth_among t (u ∷ ts) a = among_cases a (λ q. let e = ap depth q in omega (arith, e)) (λ k. omega (arith, depth_among t ts k))

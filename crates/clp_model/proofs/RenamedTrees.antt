-- Trees with other variables.
use Rattle.std.proofs.Common.{◌≡◌, suc, List, [], ◌∷◌, length, refl, ap, map}
use Rattle.std.proofs.lemmas.List.{map-append}
use Rattle.clp_model.specs.declared.tree.Tree.{Tree, Var, App', Row_of-Tree, end_of-Tree, more_of-Tree}
use Rattle.clp_model.specs.Trees.{mapped, mapped_row, mapped_all, variables, variables_in_row, variables_in, total_size, greatest_depth, IsApplication}
use Rattle.clp_model.proofs.Trees.{size_mapped, depth_mapped}
use Rattle.clp_model.proofs.Membership.{Among, first, among_front, among_back}

mutual
  unfolding mapped variables

  pub variables_mapped : {V W : Type 0} (f : V → W) (t : Tree V) → variables (mapped f t) ≡ map f (variables t)
  variables_mapped f (Var v) = refl
  variables_mapped f (App' name shape args) = row_variables_mapped f args

  row_variables_mapped : {V W : Type 0} {m : _} (f : V → W) (ts : Row_of-Tree V m) → variables_in_row (mapped_row f ts) ≡ map f (variables_in_row ts)
  row_variables_mapped f end_of-Tree = refl
  row_variables_mapped f (more_of-Tree t ts) =
      let a = variables_mapped f t in
      let b = row_variables_mapped f ts in
      let c = map-append f (variables t) (variables_in_row ts) in
      cc

pub all_variables_mapped : {V W : Type 0} (f : V → W) (ts : List (Tree V)) → variables_in (mapped_all f ts) ≡ map f (variables_in ts)
all_variables_mapped f [] = refl
all_variables_mapped f (t ∷ ts) =
    let a = variables_mapped f t in
    let b = all_variables_mapped f ts in
    let c = map-append f (variables t) (variables_in ts) in
    cc

mutual
  unfolding mapped variables

  -- one renaming after another is a third, where they agree on the variables
  pub mapped_twice : {U V W : Type 0} (f : U → V) (g : V → W) (h : U → W) (t : Tree U) → ((v : U) → Among v (variables t) → g (f v) ≡ h v) → mapped g (mapped f t) ≡ mapped h t
  mapped_twice f g h (Var v) same = ap Var (same v first)
  mapped_twice f g h (App' name shape args) same = ap (App' name shape) (row_mapped_twice f g h args same)

  row_mapped_twice : {U V W : Type 0} {m : _} (f : U → V) (g : V → W) (h : U → W) (ts : Row_of-Tree U m) → ((v : U) → Among v (variables_in_row ts) → g (f v) ≡ h v) → mapped_row g (mapped_row f ts) ≡ mapped_row h ts
  row_mapped_twice f g h end_of-Tree same = refl
  row_mapped_twice f g h (more_of-Tree t ts) same =
      let a = mapped_twice f g h t (λ v m. same v (among_front v (variables t) (variables_in_row ts) m)) in
      let b = row_mapped_twice f g h ts (λ v m. same v (among_back v (variables t) (variables_in_row ts) m)) in
      cc

pub all_mapped_twice : {U V W : Type 0} (f : U → V) (g : V → W) (h : U → W) (ts : List (Tree U)) → ((v : U) → Among v (variables_in ts) → g (f v) ≡ h v) → mapped_all g (mapped_all f ts) ≡ mapped_all h ts
all_mapped_twice f g h [] same = refl
all_mapped_twice f g h (t ∷ ts) same =
    let a = mapped_twice f g h t (λ v m. same v (among_front v (variables t) (variables_in ts) m)) in
    let b = all_mapped_twice f g h ts (λ v m. same v (among_back v (variables t) (variables_in ts) m)) in
    cc

mutual
  unfolding mapped variables

  -- a renaming that leaves each variable of a tree as it is leaves the tree
  pub mapped_to_itself : {V : Type 0} (f : V → V) (t : Tree V) → ((v : V) → Among v (variables t) → f v ≡ v) → mapped f t ≡ t
  mapped_to_itself f (Var v) same = ap Var (same v first)
  mapped_to_itself f (App' name shape args) same = ap (App' name shape) (row_mapped_to_itself f args same)

  row_mapped_to_itself : {V : Type 0} {m : _} (f : V → V) (ts : Row_of-Tree V m) → ((v : V) → Among v (variables_in_row ts) → f v ≡ v) → mapped_row f ts ≡ ts
  row_mapped_to_itself f end_of-Tree same = refl
  row_mapped_to_itself f (more_of-Tree t ts) same =
      let a = mapped_to_itself f t (λ v m. same v (among_front v (variables t) (variables_in_row ts) m)) in
      let b = row_mapped_to_itself f ts (λ v m. same v (among_back v (variables t) (variables_in_row ts) m)) in
      cc

pub all_mapped_to_themselves : {V : Type 0} (f : V → V) (ts : List (Tree V)) → ((v : V) → Among v (variables_in ts) → f v ≡ v) → mapped_all f ts ≡ ts
all_mapped_to_themselves f [] same = refl
all_mapped_to_themselves f (t ∷ ts) same =
    let a = mapped_to_itself f t (λ v m. same v (among_front v (variables t) (variables_in ts) m)) in
    let b = all_mapped_to_themselves f ts (λ v m. same v (among_back v (variables t) (variables_in ts) m)) in
    cc

-- an application stays one
pub application_mapped : {V W : Type 0} (f : V → W) (t : Tree V) → IsApplication t → IsApplication (mapped f t)
unfolding mapped IsApplication
application_mapped f (Var v) h = absurd h
application_mapped f (App' name shape args) h = tt

pub total_size_mapped : {V W : Type 0} (f : V → W) (ts : List (Tree V)) → total_size (mapped_all f ts) ≡ total_size ts
total_size_mapped f [] = refl
total_size_mapped f (t ∷ ts) = let a = size_mapped f t in let b = total_size_mapped f ts in cc

pub greatest_depth_mapped : {V W : Type 0} (f : V → W) (ts : List (Tree V)) → greatest_depth (mapped_all f ts) ≡ greatest_depth ts
greatest_depth_mapped f [] = refl
greatest_depth_mapped f (t ∷ ts) = let a = depth_mapped f t in let b = greatest_depth_mapped f ts in cc

pub length_mapped : {V W : Type 0} (f : V → W) (ts : List (Tree V)) → length (mapped_all f ts) ≡ length ts
length_mapped f [] = refl
length_mapped f (t ∷ ts) = ap suc (length_mapped f ts)

-- How what is said of trees goes from an application to its arguments.
use Rattle.std.proofs.Common.{◌≡◌, ℕ, ◌+◌, ◌<◌, max, List, [], ◌∷◌, ◌++◌, refl, ap, ◌∙◌, sym, arith}
use Rattle.clp_model.specs.declared.tree.Tree.{Tree, Var, App, App', Row_of-Tree, end_of-Tree, more_of-Tree, items-the_row-Tree, roll-Tree, roll-out-Tree}
use Rattle.clp_model.specs.declared.tree.Tree.TheViews.{rolls-App, outs-App'}
use Rattle.clp_model.specs.declared.tree.Tree.TheBlock.{items_shown-the_row-Tree-0, shown-the_row-Tree-0, items_hidden-the_row-Tree-0, hidden-the_row-Tree-0}
use Rattle.clp_model.specs.Trees.{size, sizes, total_size, depth, depths, greatest_depth, mapped, mapped_row, mapped_all, variables, variables_in_row, variables_in, IsApplication, name_of, arguments_of}

module _ {V : Type 0} where
  -- an application by the list of its arguments
  pub out_app : (name : List ℕ) (shape : _) (args : Row_of-Tree V _) → App name (items-the_row-Tree V _ args) ≡ App' name shape args
  out_app name shape args =
      ap (App name) (sym (items_shown-the_row-Tree-0 V shape args)) ∙ sym (rolls-App name (shown-the_row-Tree-0 V shape args))
      ∙ ap (roll-Tree V) (sym (outs-App' name shape args)) ∙ roll-out-Tree V (App' name shape args)

  -- ---- size and depth
  pub sizes-items : (n : _) (ts : Row_of-Tree V n) → sizes ts ≡ total_size (items-the_row-Tree V n ts)
  unfolding size
  sizes-items n end_of-Tree = refl
  sizes-items n (more_of-Tree t ts) = ap (λ k. size t + k) (sizes-items _ ts)

  pub size_app : (name : List ℕ) (ts : List (Tree V)) → size (App name ts) ≡ 1 + total_size ts
  unfolding size
  size_app name ts = ap (λ k. 1 + k) (sizes-items _ (hidden-the_row-Tree-0 V ts) ∙ ap total_size (items_hidden-the_row-Tree-0 V ts))

  pub size_var : (v : V) → size (Var v) ≡ 1
  unfolding size
  size_var v = refl

  pub size_positive : (t : Tree V) → 0 < size t
  unfolding size
  size_positive (Var v) = omega arith
  size_positive (App' name shape args) = omega arith

  depths-items : (n : _) (ts : Row_of-Tree V n) → depths ts ≡ greatest_depth (items-the_row-Tree V n ts)
  unfolding depth
  depths-items n end_of-Tree = refl
  depths-items n (more_of-Tree t ts) = ap (λ k. max (depth t) k) (depths-items _ ts)

  pub depth_app : (name : List ℕ) (ts : List (Tree V)) → depth (App name ts) ≡ 1 + greatest_depth ts
  unfolding depth
  depth_app name ts = ap (λ k. 1 + k) (depths-items _ (hidden-the_row-Tree-0 V ts) ∙ ap greatest_depth (items_hidden-the_row-Tree-0 V ts))

  pub depth_var : (v : V) → depth (Var v) ≡ 1
  unfolding depth
  depth_var v = refl

  pub depth_positive : (t : Tree V) → 0 < depth t
  unfolding depth
  depth_positive (Var v) = omega arith
  depth_positive (App' name shape args) = omega arith

  -- ---- the variables
  variables-items : (n : _) (ts : Row_of-Tree V n) → variables_in_row ts ≡ variables_in (items-the_row-Tree V n ts)
  unfolding variables
  variables-items n end_of-Tree = refl
  variables-items n (more_of-Tree t ts) = ap (λ vs. variables t ++ vs) (variables-items _ ts)

  pub variables_app : (name : List ℕ) (ts : List (Tree V)) → variables (App name ts) ≡ variables_in ts
  unfolding variables
  variables_app name ts = variables-items _ (hidden-the_row-Tree-0 V ts) ∙ ap variables_in (items_hidden-the_row-Tree-0 V ts)

  pub variables_var : (v : V) → variables (Var v) ≡ v ∷ []
  unfolding variables
  variables_var v = refl

  -- ---- the parts of an application
  pub name_of_app : (name : List ℕ) (ts : List (Tree V)) → name_of (App name ts) ≡ name
  unfolding name_of
  name_of_app name ts = refl

  pub arguments_of_app : (name : List ℕ) (ts : List (Tree V)) → arguments_of (App name ts) ≡ ts
  unfolding arguments_of
  arguments_of_app name ts = items_hidden-the_row-Tree-0 V ts

  pub application_app : (name : List ℕ) (ts : List (Tree V)) → IsApplication (App name ts)
  unfolding IsApplication
  application_app name ts = tt

  pub not_application_var : (v : V) → IsApplication (Var v) → ⊥
  unfolding IsApplication
  not_application_var v h = h

  -- an application is its name with its arguments
  pub application_is : (t : Tree V) → IsApplication t → t ≡ App (name_of t) (arguments_of t)
  unfolding IsApplication name_of arguments_of
  application_is (Var v) h = absurd h
  application_is (App' name shape args) h = sym (out_app name shape args)

-- equal applications have equal names and equal arguments
pub app_injective : {V : Type 0} (f g : List ℕ) (xs ys : List (Tree V)) → App f xs ≡ App g ys → (f ≡ g) × (xs ≡ ys)
app_injective f g xs ys e =
    (sym (name_of_app f xs) ∙ ap name_of e ∙ name_of_app g ys, sym (arguments_of_app f xs) ∙ ap arguments_of e ∙ arguments_of_app g ys)

module _ {V W : Type 0} where
  -- ---- other variables
  mapped-items : (f : V → W) (n : _) (ts : Row_of-Tree V n) → items-the_row-Tree W n (mapped_row f ts) ≡ mapped_all f (items-the_row-Tree V n ts)
  unfolding mapped
  mapped-items f n end_of-Tree = refl
  mapped-items f n (more_of-Tree t ts) = ap (λ us. mapped f t ∷ us) (mapped-items f _ ts)

  pub mapped_app : (f : V → W) (name : List ℕ) (ts : List (Tree V)) → mapped f (App name ts) ≡ App name (mapped_all f ts)
  unfolding mapped
  mapped_app f name ts =
      sym (out_app {V = W} name _ (mapped_row f (hidden-the_row-Tree-0 V ts)))
      ∙ ap (App name) (mapped-items f _ (hidden-the_row-Tree-0 V ts) ∙ ap (mapped_all f) (items_hidden-the_row-Tree-0 V ts))

  pub mapped_var : (f : V → W) (v : V) → mapped f (Var v) ≡ Var (f v)
  unfolding mapped
  mapped_var f v = refl

mutual
  unfolding mapped size

  -- the tree stays as large and as deep
  pub size_mapped : {V W : Type 0} (f : V → W) (t : Tree V) → size (mapped f t) ≡ size t
  size_mapped f (Var v) = refl
  size_mapped f (App' name shape args) = ap (λ k. 1 + k) (sizes_mapped f args)

  sizes_mapped : {V W : Type 0} {m : _} (f : V → W) (ts : Row_of-Tree V m) → sizes (mapped_row f ts) ≡ sizes ts
  sizes_mapped f end_of-Tree = refl
  sizes_mapped f (more_of-Tree t ts) = let a = size_mapped f t in let b = sizes_mapped f ts in cc

mutual
  unfolding mapped depth

  pub depth_mapped : {V W : Type 0} (f : V → W) (t : Tree V) → depth (mapped f t) ≡ depth t
  depth_mapped f (Var v) = refl
  depth_mapped f (App' name shape args) = ap (λ k. 1 + k) (depths_mapped f args)

  depths_mapped : {V W : Type 0} {m : _} (f : V → W) (ts : Row_of-Tree V m) → depths (mapped_row f ts) ≡ depths ts
  depths_mapped f end_of-Tree = refl
  depths_mapped f (more_of-Tree t ts) = let a = depth_mapped f t in let b = depths_mapped f ts in cc

-- Trees with a tree in the place of each variable.
use Rattle.std.proofs.Common.{◌≡◌, refl, ap, inl, inr}
use Rattle.clp_model.specs.declared.tree.Tree.{Tree, Var, App', Row_of-Tree, end_of-Tree, more_of-Tree}
use Rattle.clp_model.specs.Trees.{variables, variables_in_row}
use Rattle.clp_model.specs.Values.{Value, Named}
use Rattle.clp_model.proofs.Membership.{Among, first, among_front, among_back, among_either}
use Rattle.unify_model.specs.Substituting.{substituted, substituted_row}
use Rattle.unify_model.specs.Equations.{value_by, row_by}

mutual
  unfolding substituted value_by

  -- the value of a substituted tree is the tree's value where each variable has the value of its image
  pub value_substituted : {V W : Type 0} (a : W → Value) (f : V → Tree W) (t : Tree V) → value_by a (substituted f t) ≡ value_by (λ v. value_by a (f v)) t
  value_substituted a f (Var v) = refl
  value_substituted a f (App' name shape args) = ap (Named name) (row_value_substituted a f args)

  row_value_substituted : {V W : Type 0} {m : _} (a : W → Value) (f : V → Tree W) (ts : Row_of-Tree V m) → row_by a (substituted_row f ts) ≡ row_by (λ v. value_by a (f v)) ts
  row_value_substituted a f end_of-Tree = refl
  row_value_substituted a f (more_of-Tree t ts) =
      let p = value_substituted a f t in
      let q = row_value_substituted a f ts in
      cc

mutual
  unfolding variables value_by

  pub value_agrees : {V : Type 0} (a b : V → Value) (t : Tree V) → ((v : V) → Among v (variables t) → a v ≡ b v) → value_by a t ≡ value_by b t
  value_agrees a b (Var v) h = h v first
  value_agrees a b (App' name shape args) h = ap (Named name) (row_value_agrees a b args h)

  row_value_agrees : {V : Type 0} {m : _} (a b : V → Value) (ts : Row_of-Tree V m) → ((v : V) → Among v (variables_in_row ts) → a v ≡ b v) → row_by a ts ≡ row_by b ts
  row_value_agrees a b end_of-Tree h = refl
  row_value_agrees a b (more_of-Tree t ts) h =
      let p = value_agrees a b t (λ v m. h v (among_front v (variables t) (variables_in_row ts) m)) in
      let q = row_value_agrees a b ts (λ v m. h v (among_back v (variables t) (variables_in_row ts) m)) in
      cc

mutual
  unfolding substituted variables

  pub substituted_agrees : {V W : Type 0} (f g : V → Tree W) (t : Tree V) → ((v : V) → Among v (variables t) → f v ≡ g v) → substituted f t ≡ substituted g t
  substituted_agrees f g (Var v) h = h v first
  substituted_agrees f g (App' name shape args) h = ap (App' name shape) (row_substituted_agrees f g args h)

  row_substituted_agrees : {V W : Type 0} {m : _} (f g : V → Tree W) (ts : Row_of-Tree V m) → ((v : V) → Among v (variables_in_row ts) → f v ≡ g v) → substituted_row f ts ≡ substituted_row g ts
  row_substituted_agrees f g end_of-Tree h = refl
  row_substituted_agrees f g (more_of-Tree t ts) h =
      let p = substituted_agrees f g t (λ v m. h v (among_front v (variables t) (variables_in_row ts) m)) in
      let q = row_substituted_agrees f g ts (λ v m. h v (among_back v (variables t) (variables_in_row ts) m)) in
      cc

mutual
  unfolding substituted variables

  pub substituted_by_itself : {V : Type 0} (f : V → Tree V) (t : Tree V) → ((v : V) → Among v (variables t) → f v ≡ Var v) → substituted f t ≡ t
  substituted_by_itself f (Var v) h = h v first
  substituted_by_itself f (App' name shape args) h = ap (App' name shape) (row_by_itself f args h)

  row_by_itself : {V : Type 0} {m : _} (f : V → Tree V) (ts : Row_of-Tree V m) → ((v : V) → Among v (variables_in_row ts) → f v ≡ Var v) → substituted_row f ts ≡ ts
  row_by_itself f end_of-Tree h = refl
  row_by_itself f (more_of-Tree t ts) h =
      let p = substituted_by_itself f t (λ v m. h v (among_front v (variables t) (variables_in_row ts) m)) in
      let q = row_by_itself f ts (λ v m. h v (among_back v (variables t) (variables_in_row ts) m)) in
      cc

mutual
  unfolding substituted

  pub substituted_twice : {U V W : Type 0} (f : U → Tree V) (g : V → Tree W) (t : Tree U) → substituted g (substituted f t) ≡ substituted (λ v. substituted g (f v)) t
  substituted_twice f g (Var v) = refl
  substituted_twice f g (App' name shape args) = ap (App' name shape) (row_substituted_twice f g args)

  row_substituted_twice : {U V W : Type 0} {m : _} (f : U → Tree V) (g : V → Tree W) (ts : Row_of-Tree U m) → substituted_row g (substituted_row f ts) ≡ substituted_row (λ v. substituted g (f v)) ts
  row_substituted_twice f g end_of-Tree = refl
  row_substituted_twice f g (more_of-Tree t ts) =
      let p = substituted_twice f g t in
      let q = row_substituted_twice f g ts in
      cc

mutual
  unfolding substituted variables

  -- a variable of a substituted tree is one of the image of a variable
  pub came_from : {V W : Type 0} (f : V → Tree W) (w : W) (t : Tree V) → Among w (variables (substituted f t)) → (v : V) × Among v (variables t) × Among w (variables (f v))
  came_from f w (Var v) m = (v, first, m)
  came_from f w (App' name shape args) m = row_came_from f w args m

  row_came_from : {V W : Type 0} {m : _} (f : V → Tree W) (w : W) (ts : Row_of-Tree V m) → Among w (variables_in_row (substituted_row f ts)) → (v : V) × Among v (variables_in_row ts) × Among w (variables (f v))
  row_came_from f w end_of-Tree m = elim m [ ]
  row_came_from f w (more_of-Tree t ts) m =
      elim (among_either w (variables (substituted f t)) (variables_in_row (substituted_row f ts)) m) [
        | inl a ↦ (let c = came_from f w t a in (c.0, among_front c.0 (variables t) (variables_in_row ts) c.1, c.2))
        | inr b ↦ (let c = row_came_from f w ts b in (c.0, among_back c.0 (variables t) (variables_in_row ts) c.1, c.2))
      ]

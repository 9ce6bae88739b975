-- How what is said of substitutions and equations goes from an application to its arguments.
use Rattle.std.proofs.Common.{◌≡◌, ℕ, List, [], ◌∷◌, refl, ap, ◌∙◌, sym, None}
use Rattle.std.specs.Prelude.{if◌then◌else◌}
use Rattle.std.specs.Str.{bytes_eq}
use Rattle.clp_model.specs.declared.tree.Variable.{Variable}
use Rattle.clp_model.specs.declared.tree.Tree.{Tree, Var, App, Row_of-Tree, end_of-Tree, more_of-Tree, items-the_row-Tree}
use Rattle.clp_model.specs.declared.tree.Tree.TheBlock.{items_hidden-the_row-Tree-0, hidden-the_row-Tree-0}
use Rattle.clp_model.specs.Values.{Value, Values, Named, AndValue, NoValue}
use Rattle.clp_model.proofs.Trees.{out_app}
use Rattle.unify_model.specs.Substituting.{substituted, substituted_row, substituted_all}
use Rattle.unify_model.specs.Equations.{value_by, row_by}
use Rattle.unify_model.specs.Unifying.{apart, row_apart, list_apart, joined, of_application, of_variables}

module _ {V W : Type 0} where
  substituted-items : (f : V → Tree W) (n : _) (ts : Row_of-Tree V n) → items-the_row-Tree W n (substituted_row f ts) ≡ substituted_all f (items-the_row-Tree V n ts)
  unfolding substituted
  substituted-items f n end_of-Tree = refl
  substituted-items f n (more_of-Tree t ts) = ap (λ us. substituted f t ∷ us) (substituted-items f _ ts)

  pub substituted_app : (f : V → Tree W) (name : List ℕ) (ts : List (Tree V)) → substituted f (App name ts) ≡ App name (substituted_all f ts)
  unfolding substituted
  substituted_app f name ts =
      sym (out_app {V = W} name _ (substituted_row f (hidden-the_row-Tree-0 V ts)))
      ∙ ap (App name) (substituted-items f _ (hidden-the_row-Tree-0 V ts) ∙ ap (substituted_all f) (items_hidden-the_row-Tree-0 V ts))

  pub substituted_var : (f : V → Tree W) (v : V) → substituted f (Var v) ≡ f v
  unfolding substituted
  substituted_var f v = refl

module _ {V : Type 0} where
  -- the values of several trees
  abbrev pub list_by : (V → Value) → List (Tree V) → Values
  list_by a [] = NoValue
  list_by a (t ∷ ts) = AndValue (value_by a t) (list_by a ts)

  value-items : (a : V → Value) (n : _) (ts : Row_of-Tree V n) → row_by a ts ≡ list_by a (items-the_row-Tree V n ts)
  unfolding value_by
  value-items a n end_of-Tree = refl
  value-items a n (more_of-Tree t ts) = ap (λ vs. AndValue (value_by a t) vs) (value-items a _ ts)

  pub value_app : (a : V → Value) (name : List ℕ) (ts : List (Tree V)) → value_by a (App name ts) ≡ Named name (list_by a ts)
  unfolding value_by
  value_app a name ts = ap (Named name) (value-items a _ (hidden-the_row-Tree-0 V ts) ∙ ap (list_by a) (items_hidden-the_row-Tree-0 V ts))

apart-items : (m n : _) (ts : Row_of-Tree Variable m) (us : Row_of-Tree Variable n) → row_apart ts us ≡ list_apart (items-the_row-Tree Variable m ts) (items-the_row-Tree Variable n us)
unfolding apart
apart-items m n end_of-Tree end_of-Tree = refl
apart-items m n end_of-Tree (more_of-Tree u us) = refl
apart-items m n (more_of-Tree t ts) end_of-Tree = refl
apart-items m n (more_of-Tree t ts) (more_of-Tree u us) = ap (λ r. joined (apart t u) r) (apart-items _ _ ts us)

pub apart_app : (f g : List ℕ) (ts us : List (Tree Variable)) → apart (App f ts) (App g us) ≡ (if bytes_eq f g then list_apart ts us else None)
unfolding apart
apart_app f g ts us =
    ap (λ r. if bytes_eq f g then r else None)
    (apart-items _ _ (hidden-the_row-Tree-0 Variable ts) (hidden-the_row-Tree-0 Variable us)
    ∙ (ap (λ vs. list_apart vs (items-the_row-Tree Variable _ (hidden-the_row-Tree-0 Variable us))) (items_hidden-the_row-Tree-0 Variable ts)
    ∙ ap (list_apart ts) (items_hidden-the_row-Tree-0 Variable us)))

pub apart_var : (v w : Variable) → apart (Var v) (Var w) ≡ of_variables v w
unfolding apart
apart_var v w = refl

pub apart_var_app : (v : Variable) (g : List ℕ) (us : List (Tree Variable)) → apart (Var v) (App g us) ≡ of_application v.sort v (App g us)
unfolding apart
apart_var_app v g us = refl

pub apart_app_var : (w : Variable) (f : List ℕ) (ts : List (Tree Variable)) → apart (App f ts) (Var w) ≡ of_application w.sort w (App f ts)
unfolding apart
apart_app_var w f ts = refl

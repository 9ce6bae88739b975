-- What the variables of a clause become.
use Rattle.std.proofs.Common.{◌≡◌, ℕ, List, refl, ap, ◌∙◌, sym, arith, inl, inr}
use Rattle.clp_model.specs.declared.sort.Sort.{Sort}
use Rattle.clp_model.specs.declared.tree.Variable.{Variable}
use Rattle.clp_model.specs.declared.tree.Tree.{Tree, Var, App', App}
use Rattle.clp_model.specs.Trees.{size, depth}
use Rattle.clp_model.specs.Clauses.{sort_in}
use Rattle.unify_model.specs.Substituting.{substituted}
use Rattle.clause_model.specs.Solved.{typed_variable, variable_number}
use Rattle.term_store.specs.Trees.{tree_at, variable, HasTree, Keeps, IsTooLarge}
use Rattle.substitution.specs.declared.subst.Subst.{Subst}
use Rattle.substitution.specs.Weights.{IsOf, images}
use Rattle.substitution.proofs.Kept.{same_images}
use Rattle.clause_loader.specs.Carried.{number_by}

substituted_variable : (f : Variable → Tree Variable) (t : Tree Variable) (v : Variable) → t ≡ Var v → substituted f t ≡ f v
unfolding substituted
substituted_variable f t v e = ap (substituted f) e

application_number : (name : List ℕ) (ts : List (Tree Variable)) → variable_number (App name ts) ≡ 0
application_number name ts = refl

large_number : (t : Tree Variable) → IsTooLarge t → variable_number t ≡ 0
unfolding size depth
large_number (Var v) (inl h) = absurd (omega (arith, h))
large_number (Var v) (inr h) = absurd (omega (arith, h))
large_number (App' name shape args) h = refl

module _ (old mid : List (Tree Variable)) (k : Keeps old mid) (s : Subst) (of : IsOf old s) (sorts : List Sort) (n t : ℕ) (is : HasTree mid t (variable n (sort_in sorts n))) where
  abbrev image : Tree Variable
  image = substituted (images mid s) (tree_at mid t)

  image_is : image ≡ images old s (typed_variable sorts n)
  image_is =
      substituted_variable (images mid s) (tree_at mid t) (typed_variable sorts n) is.is
      ∙ ap (λ (f : Variable → Tree Variable). f (typed_variable sorts n)) (same_images old mid k s of)

  pub variable_image : (new : List (Tree Variable)) (r m : ℕ) (so : Sort) → HasTree new r image → tree_at new r ≡ variable m so → m ≡ number_by sorts (images old s) n
  variable_image new r m so h e = ap variable_number (sym e ∙ h.is ∙ image_is)

  pub application_image : (new : List (Tree Variable)) (r : ℕ) (name : List ℕ) (ts : List (Tree Variable)) → HasTree new r image → tree_at new r ≡ App name ts → 0 ≡ number_by sorts (images old s) n
  application_image new r name ts h e = sym (application_number name ts) ∙ ap variable_number (sym e ∙ h.is ∙ image_is)

  pub large_image : IsTooLarge image → 0 ≡ number_by sorts (images old s) n
  large_image h = sym (large_number image h) ∙ ap variable_number image_is

-- A substitution that was made for a store is one for a store that keeps its terms.
use Rattle.std.proofs.Common.{◌≡◌, List, sym, subst}
use Rattle.clp_model.specs.declared.tree.Variable.{Variable}
use Rattle.clp_model.specs.declared.tree.Tree.{Tree}
use Rattle.term_store.specs.Trees.{Keeps}
use Rattle.substitution.specs.declared.subst.Subst.{Subst}
use Rattle.substitution.specs.Bindings.{bound_variables}
use Rattle.substitution.specs.Weights.{HaveWeights, IsOf, images}
use Rattle.substitution.proofs.Built.{are_images_kept, images_kept}

module _ (old new : List (Tree Variable)) (k : Keeps old new) (s : Subst) (h : IsOf old s) where
  -- the images stay
  pub same_images : images new s ≡ images old s
  same_images = images_kept old new k s.images h.images

  pub is_of_kept : IsOf new s
  is_of_kept =
      let P : (Variable → Tree Variable) → Type 0 = λ f. HaveWeights f (bound_variables s.images.bindings) s.weights.items in
      record { images = are_images_kept old new k s.images h.images; count = h.count; weights = subst P (sym same_images) h.weights }

-- When applications are equal.
use Rattle.std.proofs.Common.{◌≡◌, ℕ, List, ap, ◌∙◌, sym, Bool, IsTrue, ◌↔◌}
use Rattle.clp_model.specs.declared.tree.Tree.{Tree, App}
use Rattle.clp_model.proofs.Trees.{app_injective}

-- two applications of one name are equal exactly if their arguments are
pub same_by_arguments : {V : Type 0} (f g : List ℕ) (xs ys : List (Tree V)) (a b : Tree V) (r : Bool) → a ≡ App f xs → b ≡ App g ys → f ≡ g → (IsTrue r ↔ (xs ≡ ys)) → IsTrue r ↔ (a ≡ b)
same_by_arguments f g xs ys a b r ea eb name same =
    (λ h. ea ∙ ap (λ n. App n xs) name ∙ ap (App g) (same.0 h) ∙ sym eb, λ e. same.1 (app_injective f g xs ys (sym ea ∙ e ∙ eb)).1)

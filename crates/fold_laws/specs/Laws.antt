-- The law of folding.
use Rattle.std.specs.Prelude.{◌≡◌, ℕ, ◌<◌, List, length, Some, None, All}
use Rattle.clp_model.specs.Clauses.{Clause}
use Rattle.linear_model.specs.Normal.{normal}
use Rattle.linear_model.specs.Certificates.{Entails}
use Rattle.unify_model.specs.Substituting.{Binding}
use Rattle.fold_model.specs.Positions.{first_outside, first_repeated}
use Rattle.fold_model.specs.Images.{matched_atoms, bad_with, all_bindings, image_in}
use Rattle.fold_model.specs.Internal.{lost_variable}
use Rattle.fold_model.specs.Folded.{questions, folded_clause}
use Rattle.rule_laws.specs.Steps.{IsHeld}
use Rattle.rule_laws.specs.Folding.{IsFolded}

-- no condition of folding c, by the definition n, is broken, and the rows that are to be shown are entailed
pub record IsAccepted (n c : Clause) (at with keep : List ℕ) (bs : List Binding) : Type 0 where
  pub within : first_outside (length c.body) at ≡ None
  pub once : first_repeated at ≡ None
  pub matches : matched_atoms n c at ≡ Some bs
  pub named : bad_with n c with ≡ None
  pub apart : lost_variable n c (image_in n (all_bindings n c with bs)) at keep ≡ None
  pub shown : All (λ q. Entails q.rows (normal q.target)) (questions n c (image_in n (all_bindings n c with bs)) keep)

abbrev pub AcceptedFoldIsFolded : Type 0
AcceptedFoldIsFolded =
    (n c : Clause) (at with keep : List ℕ) (bs : List Binding) → IsHeld n → 0 < length n.body → IsAccepted n c at with keep bs
    → IsFolded c n (folded_clause n c (image_in n (all_bindings n c with bs)) at keep) (image_in n (all_bindings n c with bs))

-- The first broken condition of a fold, from its parts.
use Rattle.std.proofs.Common.{◌≡◌, ℕ, List, refl, ap, ◌∙◌, sym}
use Rattle.std.specs.Prelude.{Option, Some, None}
use Rattle.clp_model.specs.Clauses.{Clause}
use Rattle.unify_model.specs.Substituting.{Binding}
use Rattle.fold_model.specs.Images.{matched_atoms}
use Rattle.map_model.specs.declared.refusal.Refusal.{Refusal}
use Rattle.map_model.specs.Rewriting.{or_next}
use Rattle.map_model.specs.Folding.{atoms_broken, with_broken, rows_broken, lost_broken, many_rows, images, images_broken}
use Rattle.rules_fold.specs.Conditions.{matched_broken, clause_broken, given_broken}

-- ---- one after another
or_both : (a b c : Option Refusal) → or_next (or_next a b) c ≡ or_next a (or_next b c)
or_both (Some x) b c = refl
or_both None b c = refl

some_first : (a b : Option Refusal) (x : Refusal) → a ≡ Some x → or_next a b ≡ Some x
some_first a b x h = ap (λ (o : Option Refusal). or_next o b) h

past_first : (a b : Option Refusal) → a ≡ None → or_next a b ≡ b
past_first a b h = ap (λ (o : Option Refusal). or_next o b) h

-- ---- the conditions of the definition n and the clause c
module _ (n c : Clause) (at with keep : List ℕ) where
  abbrev lost_or_many : List Binding → Option Refusal
  lost_or_many bs = or_next (lost_broken n c (images n c with bs) at keep) (many_rows n keep)

  by_given : (bs : List Binding) → images_broken n c at with keep bs ≡ or_next (given_broken n c with keep) (lost_or_many bs)
  by_given bs = sym (or_both (with_broken n c with) (rows_broken c keep) (lost_or_many bs))

  -- where the atoms are matched
  matched_is : (bs : List Binding) → atoms_broken c at ≡ None → matched_atoms n c at ≡ Some bs → clause_broken n c at with keep ≡ images_broken n c at with keep bs
  matched_is bs h m = past_first (atoms_broken c at) (matched_broken n c at with keep (matched_atoms n c at)) h ∙ ap (matched_broken n c at with keep) m

  pub not_given : (bs : List Binding) (x : Refusal) → atoms_broken c at ≡ None → matched_atoms n c at ≡ Some bs → given_broken n c with keep ≡ Some x → clause_broken n c at with keep ≡ Some x
  not_given bs x h m g = matched_is bs h m ∙ by_given bs ∙ some_first (given_broken n c with keep) (lost_or_many bs) x g

  pub none_lost : (bs : List Binding) → given_broken n c with keep ≡ None → lost_or_many bs ≡ None → images_broken n c at with keep bs ≡ None
  none_lost bs g l = by_given bs ∙ past_first (given_broken n c with keep) (lost_or_many bs) g ∙ l

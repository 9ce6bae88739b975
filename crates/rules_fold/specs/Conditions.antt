-- What holds of a clause that may be folded by a definition, as far as its atoms and rows go.
use Rattle.std.specs.Prelude.{◌≡◌, ℕ, List, length, Option, Some, None}
use Rattle.clp_model.specs.declared.tree.Tree.{Tree}
use Rattle.clp_model.specs.declared.tree.Variable.{Variable}
use Rattle.clp_model.specs.Clauses.{Clause}
use Rattle.unify_model.specs.Substituting.{Binding}
use Rattle.fold_model.specs.Images.{matched_atoms}
use Rattle.clause_fold.specs.Images.{AreImages, Become}
use Rattle.map_model.specs.declared.refusal.Refusal.{Refusal}
use Rattle.map_model.specs.declared.refusal.Refusal.TheVariants.{NoMatch}
use Rattle.map_model.specs.Rewriting.{or_next}
use Rattle.map_model.specs.Folding.{atoms_broken, with_broken, rows_broken, images, images_broken}

-- the first broken condition, where the atoms were matched with these bindings, if there are any
abbrev pub matched_broken : Clause → Clause → List ℕ → List ℕ → List ℕ → Option (List Binding) → Option Refusal
matched_broken n c at with keep None = Some NoMatch
matched_broken n c at with keep (Some bs) = images_broken n c at with keep bs

-- the first broken condition on the clause c and the definition n
abbrev pub clause_broken : Clause → Clause → List ℕ → List ℕ → List ℕ → Option Refusal
clause_broken n c at with keep = or_next (atoms_broken c at) (matched_broken n c at with keep (matched_atoms n c at))

-- the first broken condition on what is named and on the rows that are kept
abbrev pub given_broken : Clause → Clause → List ℕ → List ℕ → Option Refusal
given_broken n c with keep = or_next (with_broken n c with) (rows_broken c keep)

-- terms of the store are what the variables of the definition n become in the clause c
pub record AreMade (store : List (Tree Variable)) (terms : List ℕ) (n c : Clause) (at with : List ℕ) : Type 0 where
  pub bindings : List Binding
  pub matched : matched_atoms n c at ≡ Some bindings
  pub are : AreImages store terms (length n.sorts) c.sorts
  pub become : Become store terms (images n c with bindings)

-- and no condition is broken
pub record AreAllowed (store : List (Tree Variable)) (terms : List ℕ) (n c : Clause) (at with keep : List ℕ) : Type 0 where
  pub made : AreMade store terms n c at with
  pub atoms : atoms_broken c at ≡ None
  pub unbroken : images_broken n c at with keep made.bindings ≡ None

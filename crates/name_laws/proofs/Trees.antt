-- The names and the predicate of a tree with other variables, or with trees in the place of its variables.
use Rattle.std.proofs.Common.{◌≡◌, ℕ, suc, List, length, refl, ap, ◌∙◌, Bool}
use Rattle.clp_model.specs.declared.tree.Tree.{Tree, Var, App', Row_of-Tree, end_of-Tree, more_of-Tree, items-the_row-Tree}
use Rattle.clp_model.specs.declared.predicate.Pred.{Pred}
use Rattle.clp_model.specs.Trees.{mapped, mapped_row, IsApplication, name_of, arguments_of}
use Rattle.clp_model.specs.Predicates.{predicate_of}
use Rattle.unify_model.specs.Substituting.{substituted, substituted_row}
use Rattle.name_laws.specs.Names.{HasNames, RowHasNames, IsAtomOver}

module _ {V W : Type 0} (p : List ℕ → Bool) (f : V → Tree W) (each : (v : V) → HasNames p (f v)) where
  mutual
    unfolding HasNames substituted

    pub names_substituted : (t : Tree V) → HasNames p t → HasNames p (substituted f t)
    names_substituted (Var v) h = each v
    names_substituted (App' name shape args) h = (h.0, row_names_substituted args h.1)

    row_names_substituted : {m : _} (ts : Row_of-Tree V m) → RowHasNames p ts → RowHasNames p (substituted_row f ts)
    row_names_substituted end_of-Tree h = tt
    row_names_substituted (more_of-Tree t ts) h = (names_substituted t h.0, row_names_substituted ts h.1)

module _ {V W : Type 0} (p : List ℕ → Bool) (f : V → W) where
  mutual
    unfolding HasNames mapped

    pub names_mapped : (t : Tree V) → HasNames p t → HasNames p (mapped f t)
    names_mapped (Var v) h = tt
    names_mapped (App' name shape args) h = (h.0, row_names_mapped args h.1)

    row_names_mapped : {m : _} (ts : Row_of-Tree V m) → RowHasNames p ts → RowHasNames p (mapped_row f ts)
    row_names_mapped end_of-Tree h = tt
    row_names_mapped (more_of-Tree t ts) h = (names_mapped t h.0, row_names_mapped ts h.1)

abbrev of_arity : List ℕ → ℕ → Pred
of_arity name n = record { name = name; arity = n }

module _ {V W : Type 0} (f : V → Tree W) where
  lengths_substituted : {m : _} (ts : Row_of-Tree V m) → length (items-the_row-Tree W m (substituted_row f ts)) ≡ length (items-the_row-Tree V m ts)
  unfolding substituted
  lengths_substituted end_of-Tree = refl
  lengths_substituted (more_of-Tree t ts) = ap suc (lengths_substituted ts)

  applies_substituted : (t : Tree V) → IsApplication t → IsApplication (substituted f t)
  unfolding IsApplication substituted
  applies_substituted (Var v) h = absurd h
  applies_substituted (App' name shape args) h = tt

  predicate_substituted : (t : Tree V) → IsApplication t → predicate_of (substituted f t) ≡ predicate_of t
  unfolding IsApplication substituted name_of arguments_of
  predicate_substituted (Var v) h = absurd h
  predicate_substituted (App' name shape args) h = ap (of_arity name) (lengths_substituted args)

module _ {V W : Type 0} (f : V → W) where
  lengths_mapped : {m : _} (ts : Row_of-Tree V m) → length (items-the_row-Tree W m (mapped_row f ts)) ≡ length (items-the_row-Tree V m ts)
  unfolding mapped
  lengths_mapped end_of-Tree = refl
  lengths_mapped (more_of-Tree t ts) = ap suc (lengths_mapped ts)

  applies_mapped : (t : Tree V) → IsApplication t → IsApplication (mapped f t)
  unfolding IsApplication mapped
  applies_mapped (Var v) h = absurd h
  applies_mapped (App' name shape args) h = tt

  predicate_mapped : (t : Tree V) → predicate_of (mapped f t) ≡ predicate_of t
  unfolding mapped name_of arguments_of
  predicate_mapped (Var v) = refl
  predicate_mapped (App' name shape args) = ap (of_arity name) (lengths_mapped args)

module _ {V W : Type 0} (p : List ℕ → Bool) (q : Pred → Bool) where
  pub atom_substituted : (f : V → Tree W) → ((v : V) → HasNames p (f v)) → (t : Tree V) → IsAtomOver p q t → IsAtomOver p q (substituted f t)
  atom_substituted f each t h = record {
    application = applies_substituted f t h.application;
    predicate = ap q (predicate_substituted f t h.application) ∙ h.predicate;
    names = names_substituted p f each t h.names;
  }

  pub atom_mapped : (f : V → W) (t : Tree V) → IsAtomOver p q t → IsAtomOver p q (mapped f t)
  atom_mapped f t h = record {
    application = applies_mapped f t h.application;
    predicate = ap q (predicate_mapped f t) ∙ h.predicate;
    names = names_mapped p f t h.names;
  }

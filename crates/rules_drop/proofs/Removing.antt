-- The parts of a clause without one atom, in another store.
use Rattle.std.proofs.Common.{◌≡◌, ℕ, zero, suc, ◌<◌, List, [], ◌∷◌, length, refl, ap, ◌∙◌, sym, subst, arith, remove}
use Rattle.clp_model.specs.declared.tree.Variable.{Variable}
use Rattle.clp_model.specs.declared.tree.Tree.{Tree}
use Rattle.clp_model.specs.Trees.{mapped}
use Rattle.clp_model.specs.Clauses.{Clause as Meaning}
use Rattle.clp_meaning.specs.Laws.{without_atom}
use Rattle.term_store.specs.Trees.{tree_at}
use Rattle.clause_store.specs.declared.clause.Clause.{Clause as Kept}
use Rattle.clause_store.specs.Stored.{number_of, atoms_at, clause_of, clause_in, AreParts, IsStored}
use Rattle.clause_store.proofs.Without.{parts_without}
use Rattle.rules_drop.proofs.SameTrees.{length_atoms}

atoms_removed : (store : List (Tree Variable)) (ts : List ℕ) (i : ℕ) → atoms_at store (remove ts i) ≡ remove (atoms_at store ts) i
atoms_removed store [] zero = refl
atoms_removed store [] (suc i) = refl
atoms_removed store (t ∷ ts) zero = refl
atoms_removed store (t ∷ ts) (suc i) = ap (λ us. mapped number_of (tree_at store t) ∷ us) (atoms_removed store ts i)

module _ (scratch store : List (Tree Variable)) (copy clause : Kept) (place : ℕ) (same : clause_in scratch copy ≡ clause_in store clause) where
  -- the copy has as many atoms
  pub as_many_atoms : place < length clause.atoms → place < length copy.atoms
  as_many_atoms h = omega (arith, ap (λ (c : Meaning). length c.body) same, length_atoms scratch copy.atoms, length_atoms store clause.atoms)

  pub removed_is : (atoms : List ℕ) → atoms ≡ remove copy.atoms place → clause_of scratch copy.head copy.rows atoms copy.sorts ≡ without_atom (clause_in store clause) place
  removed_is atoms e =
      ap (λ (xs : List ℕ). clause_of scratch copy.head copy.rows xs copy.sorts) e
      ∙ ap (λ (body : List (Tree ℕ)). record (clause_in scratch copy) { body = body }) (atoms_removed scratch copy.atoms place)
      ∙ ap (λ (c : Meaning). without_atom c place) same

  pub removed_parts : (atoms : List ℕ) → atoms ≡ remove copy.atoms place → IsStored scratch copy → AreParts scratch copy.head copy.rows atoms copy.sorts
  removed_parts atoms e stored =
      let P : List ℕ → Type 0 = λ xs. AreParts scratch copy.head copy.rows xs copy.sorts in
      subst P (sym e) (parts_without scratch copy.head copy.rows copy.atoms copy.sorts place stored.parts)

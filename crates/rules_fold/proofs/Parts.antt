-- How many parts a clause of a store has.
use Rattle.std.proofs.Common.{◌≡◌, ℕ, List, length, refl, ap, sym, subst, ◌∙◌}
use Rattle.std.specs.Prelude.{Option, Some, None, IfSome, option_map}
use Rattle.clp_model.specs.declared.tree.Variable.{Variable}
use Rattle.clp_model.specs.declared.tree.Tree.{Tree}
use Rattle.clp_model.proofs.RenamedTrees.{length_mapped}
use Rattle.term_store.specs.Trees.{trees_at}
use Rattle.clause_store.specs.declared.clause.Clause.{Clause as Kept}
use Rattle.clause_store.specs.Stored.{number_of, atoms_at, clause_in}
use Rattle.clause_store.proofs.Counts.{length_trees_at}
use Rattle.fold_model.specs.Positions.{first_outside, first_repeated}
use Rattle.map_model.specs.declared.refusal.Refusal.{Refusal}
use Rattle.map_model.specs.declared.refusal.Refusal.TheVariants.{NoAtom, RepeatedPosition}
use Rattle.map_model.specs.Rewriting.{or_next}
use Rattle.map_model.specs.Folding.{atoms_broken}

pub length_atoms : (store : List (Tree Variable)) (terms : List ℕ) → length (atoms_at store terms) ≡ length terms
length_atoms store terms = length_mapped number_of (trees_at store terms) ∙ length_trees_at store terms

none_outside : (o : Option ℕ) (next : Option Refusal) → or_next (option_map NoAtom o) next ≡ None → o ≡ None
none_outside (Some p) next h = absurd (cc (h))
none_outside None next h = refl

-- each position is an atom's where no condition on them is broken
pub positions : (store : List (Tree Variable)) (c : Kept) (at : List ℕ) → atoms_broken (clause_in store c) at ≡ None → first_outside (length c.atoms) at ≡ None
positions store c at h =
    ap (λ (n : ℕ). first_outside n at) (sym (length_atoms store c.atoms))
    ∙ none_outside (first_outside (length (atoms_at store c.atoms)) at) (option_map RepeatedPosition (first_repeated at)) h

-- what holds of the value where there is one
pub of_some : {A : Type 0} (P : A → Type 0) (o : Option A) (a : A) → o ≡ Some a → IfSome o P → P a
of_some {A} P o a e h = let Q : Option A → Type 0 = λ x. IfSome x P in subst Q e h

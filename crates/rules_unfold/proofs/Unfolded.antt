-- What an unfolding makes of a state.
use Rattle.std.proofs.Common.{◌≡◌, ℕ, ◌+◌, ◌-◌, List, [], ◌∷◌, length, Some, None, Result, Ok, Err, Bool, true, false, ap, ◌∙◌, sym, ◌⊎◌, inl, inr, IfOk}
use Rattle.std.specs.Prelude.{if◌then◌else◌}
use Rattle.clp_model.specs.declared.tree.Variable.{Variable}
use Rattle.clp_model.specs.declared.tree.Tree.{Tree}
use Rattle.clp_model.proofs.RenamedTrees.{length_mapped}
use Rattle.term_store.specs.Trees.{trees_at}
use Rattle.clause_store.specs.Stored.{number_of, atoms_at}
use Rattle.clause_store.proofs.Counts.{length_trees_at}
use Rattle.map_model.specs.declared.step.Step.TheVariants.{Unfold}
use Rattle.map_model.specs.declared.refusal.Refusal.{Refusal}
use Rattle.map_model.specs.declared.refusal.Refusal.TheVariants.{NoMemory, NoAtom}
use Rattle.map_model.specs.State.{Entry, State, live_at}
use Rattle.fold_model.specs.Positions.{in_range}
use Rattle.map_model.specs.Rewriting.{Rewriting, new_entries, replaced_by, rewritten, within_limits}
use Rattle.map_model.specs.Unfolding.{resolvents, resolvents_from, unfold_of, unfold_after}
use Rattle.map_state.specs.declared.change.Made.{Made}
use Rattle.map_state.specs.declared.change.Change.{Change}
use Rattle.map_state.specs.Changes.{made_entries, changed}

pub length_atoms : (store : List (Tree Variable)) (terms : List ℕ) → length (atoms_at store terms) ≡ length terms
length_atoms store terms = length_mapped number_of (trees_at store terms) ∙ length_trees_at store terms

module _ (s : State) (id at : ℕ) (e : Entry) (live : Some e ≡ live_at s id) where
  abbrev r : Rewriting
  r = record { dead = id ∷ []; made = resolvents s id e.clause at; defines = None; step = Unfold id at }

  after : (b : Bool) → in_range (length e.clause.body) at ≡ b → unfold_after s id at ≡ (if b then rewritten s r else Err (NoAtom at))
  after b h = ap (unfold_of s id at) (sym live) ∙ ap (λ (x : Bool). if x then rewritten s r else Err (NoAtom at)) h

  pub no_atom : in_range (length e.clause.body) at ≡ false → unfold_after s id at ≡ Err (NoAtom at)
  no_atom h = after false h

  pub unfolds : (scratch : List (Tree Variable)) (made : List Made) (change : Change) → in_range (length e.clause.body) at ≡ true
      → ((n : ℕ) → new_entries n (resolvents_from id e.clause (at - 1) 1 s.entries) ≡ Ok (made_entries n scratch made))
      → change ≡ record { dead = id ∷ []; made = made; defines = None; step = Unfold id at; scratch = scratch }
      → unfold_after s id at ≡ within_limits (changed s change)
  unfolds scratch made change h k is =
      after true h ∙ ap (replaced_by s r) (k (length s.steps + 1))
      ∙ ap (λ (x : Change). within_limits (changed s x)) (sym is)

  pub not_unfolded : (x : Refusal) → in_range (length e.clause.body) at ≡ true
      → (x ≡ NoMemory) ⊎ ((n : ℕ) → new_entries n (resolvents_from id e.clause (at - 1) 1 s.entries) ≡ Err x)
      → (x ≡ NoMemory) ⊎ (unfold_after s id at ≡ Err x)
  not_unfolded x h (inl m) = inl m
  not_unfolded x h (inr k) = inr (after true h ∙ ap (replaced_by s r) (k (length s.steps + 1)))

pub range_is : (store : List (Tree Variable)) (terms : List ℕ) (at count : ℕ) (r : Bool) → count ≡ length terms → r ≡ in_range count at → in_range (length (atoms_at store terms)) at ≡ r
range_is store terms at count r e h = ap (λ (n : ℕ). in_range n at) (length_atoms store terms ∙ sym e) ∙ sym h

pub if_ok_so : {A E : Type 0} (r : Result A E) (P Q : A → Type 0) → ((a : A) → P a → Q a) → IfOk r P → IfOk r Q
if_ok_so (Ok a) P Q f h = f a h
if_ok_so (Err x) P Q f h = tt

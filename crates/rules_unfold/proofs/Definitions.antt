-- What a definition makes of a state.
use Rattle.std.proofs.Common.{◌≡◌, ◌+◌, ◌<◌, ◌||◌, List, [], ◌∷◌, length, Option, Some, None, Result, Ok, Err, Bool, true, false, refl, ap, ◌∙◌, sym, subst, ◌⊎◌, inl, inr}
use Rattle.std.specs.Prelude.{if◌then◌else◌}
use Rattle.clp_model.specs.declared.tree.Variable.{Variable}
use Rattle.clp_model.specs.declared.tree.Tree.{Tree}
use Rattle.clp_model.specs.Predicates.{predicate_of}
use Rattle.clp_model.specs.Clauses.{Clause}
use Rattle.clause_model.specs.Canonical as clauses
use Rattle.clause_model.specs.Canonical.{new_clause}
use Rattle.clause_model.specs.Load.{load_one}
use Rattle.clause_model.specs.Source.{source_of}
use Rattle.clause_laws.proofs.NewClause.{canonical_is_new}
use Rattle.clause_store.specs.declared.clause.Clause.{Clause as Kept}
use Rattle.clause_store.specs.declared.fault.ClauseFault.{ClauseFault}
use Rattle.clause_store.specs.declared.fault.ClauseFault.TheVariants as fault
use Rattle.clause_store.specs.declared.source.SourceClause.{SourceClause}
use Rattle.clause_store.specs.Source.{meaning_of}
use Rattle.clause_store.specs.Stored.{clause_in, IsStored}
use Rattle.clause_loader.specs.Outcome.{IsRefusedSource}
use Rattle.map_model.specs.declared.step.Step.TheVariants.{Define}
use Rattle.map_model.specs.declared.refusal.Refusal.{Refusal}
use Rattle.map_model.specs.declared.refusal.Refusal.TheVariants.{NoMemory, EmptyDefinition, NotFresh}
use Rattle.map_model.specs.State.{State, is_among, defined_of}
use Rattle.map_model.specs.Rewriting.{new_entry, put_first, replaced_by, rewritten, within_limits, unless_broken, or_next}
use Rattle.map_model.specs.Defining.{definition, definition_broken, define_loaded, define_after, as_source, not_fresh}
use Rattle.map_state.specs.declared.change.Change.{Change}
use Rattle.map_state.specs.Faults.{refusal_of}
use Rattle.map_state.specs.Changes.{IsChange, changed}

-- ---- a fresh predicate
first_none : (a b : Option Refusal) → or_next a b ≡ None → a ≡ None
first_none None b h = refl
first_none (Some x) b h = h

neither : (x : Refusal) (a b : Bool) → (if a || b then Some x else None) ≡ None → (a ≡ false) × (b ≡ false)
neither x true b h = absurd (cc (h))
neither x false true h = absurd (cc (h))
neither x false false h = (refl, refl)

fresh : (s : State) (c : Clause) → definition_broken s c ≡ None → (is_among s.initials (predicate_of c.head) ≡ false) × (is_among (defined_of s) (predicate_of c.head) ≡ false)
fresh s c none =
    let p = predicate_of c.head in
    neither (NotFresh p) (is_among s.initials p) (is_among (defined_of s) p) (first_none (not_fresh s p) _ none)

module _ (s : State) (source : SourceClause) where
  -- ---- a clause that isn't a definition
  pub unloaded : load_one (meaning_of source) ≡ Ok None → define_after s source ≡ Err EmptyDefinition
  unloaded h = ap (define_loaded s) h

  pub not_loaded : (x : ClauseFault) → IsRefusedSource (meaning_of source) x → (refusal_of x ≡ NoMemory) ⊎ (define_after s source ≡ Err (refusal_of x))
  not_loaded fault.Overflow h = inr (ap (define_loaded s) h)
  not_loaded (fault.TooLarge limit) h = inr (ap (define_loaded s) h)
  not_loaded fault.NoMemory h = inl refl

  loaded : (c : Clause) (o : Option Refusal) → load_one (meaning_of source) ≡ Ok (Some c) → definition_broken s c ≡ o → define_after s source ≡ unless_broken o (rewritten s (definition c))
  loaded c o h broken = ap (define_loaded s) h ∙ ap (λ (x : Option Refusal). unless_broken x (rewritten s (definition c))) broken

  pub not_defined : (c : Clause) (x : Refusal) → load_one (meaning_of source) ≡ Ok (Some c) → definition_broken s c ≡ Some x → define_after s source ≡ Err x
  not_defined c x h broken = loaded c (Some x) h broken

  -- ---- one that is
  module _ (scratch : List (Tree Variable)) (kept : Kept) (change : Change) where
    abbrev c : Clause
    c = clause_in scratch kept

    abbrev defining : Change
    defining = record {
      dead = [];
      made = record { clause = kept; mark = false; parents = [] } ∷ [];
      defines = Some (predicate_of c.head);
      step = Define (as_source (source_of c));
      scratch = scratch;
    }

    pub defines : load_one (meaning_of source) ≡ Ok (Some c) → definition_broken s c ≡ None → IsStored scratch kept → change ≡ defining
        → define_after s source ≡ within_limits (changed s change)
    defines h none stored is =
        loaded c None h none
        ∙ ap (λ (r : Result Clause clauses.Refusal). replaced_by s (definition c) (put_first (new_entry (length s.steps + 1) false []) r (Ok []))) (canonical_is_new c stored.canonical)
        ∙ ap (λ (x : Change). within_limits (changed s x)) (sym is)

    pub is_change : definition_broken s c ≡ None → IsStored scratch kept → length s.steps < 100000 → change ≡ defining → IsChange s change
    is_change none stored few is =
        let free = fresh s c none in
        subst (IsChange s) (sym is) (record {
          dead = tt;
          made = (stored, tt);
          defines = record { unmarked = refl; head = refl; not_initial = free.0; not_defined = free.1 };
          steps = few;
        })

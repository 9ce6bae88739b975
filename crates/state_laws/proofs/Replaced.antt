-- An accepted step that puts in the place of a clause one with the same instances keeps the state.
use Rattle.std.proofs.Common.{◌≡◌, ℕ, ◌+◌, ◌-◌, List, [], ◌∷◌, length, sym, ◌∙◌, ap, subst, inl, inr}
use Rattle.std.specs.Prelude.{Ok, Contains}
use Rattle.clp_model.specs.declared.predicate.Pred.{Pred}
use Rattle.clp_model.specs.Clauses.{Clause}
use Rattle.clp_model.proofs.Membership.{Among, first}
use Rattle.clp_meaning.specs.Laws.{HaveSameInstances}
use Rattle.clp_rank.specs.Entries.{Entry as Marked, setting}
use Rattle.clp_rank.proofs.SameInstances.{same_instances_keep}
use Rattle.unify_laws.proofs.Solved.{among_cases}
use Rattle.clause_model.specs.Canonical.{new_clause, canonical_form, HasRisingRows, IsCanonical}
use Rattle.rule_laws.specs.Steps.{IsHeld}
use Rattle.rule_laws.specs.Dropping.{IsKnown}
use Rattle.rule_laws.specs.Rows.{IsReplacement}
use Rattle.rule_laws.proofs.RowRules.{replacement_keeps}
use Rattle.map_model.specs.State.{Entry, State, live_entries}
use Rattle.map_model.specs.Rewriting.{Draft}
use Rattle.fill_laws.specs.Accepted.{in_its_place}
use Rattle.state_laws.specs.KeptState.{marked, live_of, base_of, defined_by, known_of, IsKeptState}
use Rattle.state_laws.proofs.Held.{new_is_held}
use Rattle.state_laws.proofs.Known.{Speaks, new_is_known}
use Rattle.state_laws.proofs.Live.{goes_from}
use Rattle.state_laws.proofs.Made.{Makes, entry_for}
use Rattle.state_laws.proofs.Rewritten.{Rewrites, is_marked, drafted_by, now_live, was, kept, old, state_after, entry_held, entry_canonical, entry_known}

-- the clause d may take the place of the clause c
pub record MayReplace (d c : Clause) : Type 0 where
  pub same : HaveSameInstances d c
  pub held : IsHeld d
  pub rising : HasRisingRows d
  pub speaks : (known : List Pred) → Speaks known c → Speaks known d

module _ (s t : State) (id : ℕ) (e : Entry) (d : Clause) (rewrites : Rewrites s t id e (in_its_place id e d)) (may : IsHeld e.clause → IsCanonical e.clause → MayReplace d e.clause) (k : IsKeptState s) where
  abbrev drafts : List Draft
  drafts = in_its_place id e d

  abbrev draft : Draft
  draft = record { clause = d; mark = e.mark; parents = id ∷ [] }

  abbrev new : Marked
  new = record { clause = canonical_form d; mark = e.mark }

  among_live : Among e (live_entries s)
  among_live = goes_from e s.entries (id - 1) rewrites.here rewrites.is_live

  there : MayReplace d e.clause
  there = may (entry_held s k e among_live) (entry_canonical s k e among_live)

  -- each new entry is that of the clause d
  new_is : (x : Draft) (y : Entry) (n : ℕ) → Among x drafts → Makes n x y → (marked y ≡ new) × IsHeld y.clause × IsCanonical y.clause × IsKnown (known_of s) y.clause
  new_is x y n a m = among_cases a
      (λ q.
      let c : new_clause d ≡ Ok y.clause = ap (λ (z : Draft). new_clause z.clause) (sym q) ∙ m.clause in
      let h = new_is_held d y.clause there.held there.rising c in
      (is_marked y (canonical_form d) e.mark h.0 (m.mark ∙ ap (λ (z : Draft). z.mark) q), h.1, h.2, new_is_known (known_of s) d y.clause h.0 (there.speaks (known_of s) (entry_known s k e among_live))))
      (λ b. elim b [ ])

  made_now : Contains (live_of t) new
  made_now =
      let v = entry_for (length s.steps + 1) drafts rewrites.entries rewrites.made draft first in
      subst (λ y. Contains (live_of t) y) (new_is draft v.0 (length s.steps + 1) first v.2).0 (now_live s t id e drafts rewrites v.0 v.1)

  is_replacement : IsReplacement (live_of s) (live_of t) (marked e) d
  is_replacement = record {
    was = was s t id e drafts rewrites;
    no_equations = there.held.equations;
    now = made_now;
    kept = kept s t id e drafts rewrites;
    old = λ r l. elim (old s t id e drafts rewrites r l) [
      | inl a ↦ inr a
      | inr m ↦ let x = drafted_by s t id e drafts rewrites m.0 m.1 in inl (m.2 ∙ (new_is x.0 m.0 (length s.steps + 1) x.1 x.2).0)
    ];
  }

  pub replaced_keeps_state : IsKeptState t
  replaced_keeps_state = state_after s t id e drafts rewrites k
      (same_instances_keep (setting (defined_by s)) (Contains (base_of s)) (Contains (live_of s)) (Contains (live_of t)) (marked e) (replacement_keeps (defined_by s) (live_of s) (live_of t) (marked e) d there.same is_replacement) k.ranked)
      (λ y a. let x = drafted_by s t id e drafts rewrites y a in let h = new_is x.0 y (length s.steps + 1) x.1 x.2 in (h.1, h.2, h.3))

-- An accepted unfolding keeps the state.
use Rattle.std.proofs.Common.{◌≡◌, ℕ, ◌+◌, ◌-◌, ◌<◌, List, length, refl, sym, ◌∙◌, ap, subst, arith, inl, inr, Bool, true, false}
use Rattle.std.specs.Prelude.{Some, Ok, nat_lt, nat_le, ◌&&◌, Contains}
use Rattle.std.proofs.lemmas.Bool.{ltb-true, leb-true}
use Rattle.clp_model.specs.Clauses.{Clause}
use Rattle.clp_model.proofs.Membership.{to_among, from_among, among_mapped}
use Rattle.clp_rank.specs.Entries.{Entry as Marked, setting}
use Rattle.clp_rank.proofs.Unfolding.{unfolding_keeps}
use Rattle.clause_model.specs.Canonical.{new_clause, canonical_form, IsCanonical}
use Rattle.unfold_model.specs.Resolvent.{resolvent}
use Rattle.rule_laws.specs.Steps.{IsHeld, resolved, IsUnfolding}
use Rattle.rule_laws.specs.Dropping.{IsKnown}
use Rattle.rule_laws.proofs.Unfolding.{unfolds}
use Rattle.map_model.specs.State.{Entry, State, live_entries}
use Rattle.map_model.specs.Rewriting.{Draft}
use Rattle.fold_model.specs.Positions.{in_range}
use Rattle.map_model.specs.Unfolding.{resolvents}
use Rattle.state_laws.specs.KeptState.{marked, live_of, base_of, defined_by, known_of, IsKeptState}
use Rattle.state_laws.proofs.Variables.{among_map}
use Rattle.state_laws.proofs.Held.{new_is_held, resolvent_is_held}
use Rattle.state_laws.proofs.Known.{resolvent_speaks, new_is_known}
use Rattle.state_laws.proofs.Live.{goes_from}
use Rattle.state_laws.proofs.Made.{Makes, Resolves, resolves, has_draft, entry_for}
use Rattle.state_laws.proofs.Rewritten.{Rewrites, is_marked, drafted_by, now_live, was, kept, old, state_after, entry_held, entry_known, marked_held}

both : (a b : Bool) → (a && b) ≡ true → (a ≡ true) × (b ≡ true)
both true b h = (refl, h)
both false b h = absurd (cc)

-- a position that is in range is a place
pub place_of : (count at : ℕ) → in_range count at ≡ true → (0 < at) × (at - 1 < count)
place_of count at h =
    let p = both (nat_lt 0 at) (nat_le at count) h in
    let a = ltb-true 0 at p.0 in
    let b = leb-true at count p.1 in
    (a, omega arith)

-- an accepted unfolding of a live clause, at an atom of its body
module _ (s t : State) (id at : ℕ) (e : Entry) (rewrites : Rewrites s t id e (resolvents s id e.clause at)) (place : at - 1 < length e.clause.body) where
  abbrev i : ℕ
  i = at - 1

  abbrev drafts : List Draft
  drafts = resolvents s id e.clause at

  module _ (k : IsKeptState s) where
    e_held : IsHeld e.clause
    e_held = entry_held s k e (goes_from e s.entries (id - 1) rewrites.here rewrites.is_live)

    -- what becomes of a draft
    drafted_held : (d : Draft) (x : Entry) → Resolves id e.clause i s.entries d → new_clause d.clause ≡ Ok x.clause → (x.clause ≡ canonical_form d.clause) × IsHeld x.clause × IsCanonical x.clause
    drafted_held d x r q =
        let h = resolvent_is_held e.clause r.by.clause i place e_held (entry_held s k r.by r.is_live) d.clause r.is in
        new_is_held d.clause x.clause h.0 h.1 q

    drafted_known : (d : Draft) (x : Entry) → Resolves id e.clause i s.entries d → new_clause d.clause ≡ Ok x.clause → IsKnown (known_of s) x.clause
    drafted_known d x r q =
        let of_e = entry_known s k e (goes_from e s.entries (id - 1) rewrites.here rewrites.is_live) in
        let of_by = entry_known s k r.by r.is_live in
        let speaks = resolvent_speaks (known_of s) e.clause r.by.clause i e_held (entry_held s k r.by r.is_live) of_e of_by d.clause r.is in
        new_is_known (known_of s) d.clause x.clause (drafted_held d x r q).0 speaks

    new_resolved : (d : Draft) (x : Entry) (n : ℕ) → Resolves id e.clause i s.entries d → Makes n d x → marked x ≡ resolved d.clause
    new_resolved d x n r m = is_marked x (canonical_form d.clause) true (drafted_held d x r m.clause).0 (m.mark ∙ r.mark)

    made_now : (x : Marked) (d : Clause) → Contains (live_of s) x → resolvent e.clause i x.clause ≡ Some d → Contains (live_of t) (resolved d)
    made_now x d l q =
        let f = among_map marked (live_entries s) x (to_among (live_of s) x l) in
        let q' : resolvent e.clause i f.0.clause ≡ Some d = ap (λ (y : Marked). resolvent e.clause i y.clause) (sym f.2) ∙ q in
        let w = has_draft id e.clause i 1 s.entries f.0 d f.1 q' in
        let v = entry_for (length s.steps + 1) drafts rewrites.entries rewrites.made w.0 w.1 in
        let r = resolves id e.clause i 1 s.entries w.0 w.1 in
        subst (λ y. Contains (live_of t) y) (new_resolved w.0 v.0 (length s.steps + 1) r v.2 ∙ ap resolved w.2) (now_live s t id e drafts rewrites v.0 v.1)

    is_unfolding : IsUnfolding (live_of s) (live_of t) (marked e) i
    is_unfolding = record {
      was = was s t id e drafts rewrites;
      place = place;
      held = marked_held s k;
      kept = kept s t id e drafts rewrites;
      made = made_now;
      old = λ r l. elim (old s t id e drafts rewrites r l) [
        | inl a ↦ inl a
        | inr m ↦
            let d = drafted_by s t id e drafts rewrites m.0 m.1 in
            let x = resolves id e.clause i 1 s.entries d.0 d.1 in
            inr (marked x.by, d.0.clause, from_among (among_mapped marked x.is_live), x.is, m.2 ∙ new_resolved d.0 m.0 (length s.steps + 1) x d.2)
      ];
    }

    pub unfold_keeps_state : IsKeptState t
    unfold_keeps_state = state_after s t id e drafts rewrites k
        (unfolding_keeps (setting (defined_by s)) (Contains (base_of s)) (Contains (live_of s)) (Contains (live_of t)) (marked e) (unfolds (defined_by s) (live_of s) (live_of t) (marked e) i is_unfolding) k.ranked)
        (λ x a. let d = drafted_by s t id e drafts rewrites x a in
        let y = resolves id e.clause i 1 s.entries d.0 d.1 in
        let h = drafted_held d.0 x y d.2.clause in
        (h.1, h.2, drafted_known d.0 x y d.2.clause))

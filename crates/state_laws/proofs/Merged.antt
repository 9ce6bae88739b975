-- An accepted merge keeps the state.
use Rattle.std.proofs.Common.{◌≡◌, ◌≢◌, ℕ, zero, suc, ◌+◌, ◌-◌, ◌<◌, List, [], ◌∷◌, length, refl, sym, ◌∙◌, ap, subst, arith, inl, inr, Bool, true, false, eq-eqb}
use Rattle.std.specs.Prelude.{Option, Some, None, Ok, slice_index_or, nat_eq, not, if◌then◌else◌, Contains}
use Rattle.clp_model.specs.declared.tree.Tree.{Tree, Var}
use Rattle.clp_model.specs.Clauses.{Clause}
use Rattle.clp_model.proofs.Membership.{Among, first}
use Rattle.clp_meaning.specs.Laws.{HasTwice, without_atom}
use Rattle.clp_rank.specs.Entries.{Entry as Marked, setting}
use Rattle.clp_rank.proofs.Narrowing.{narrowing_keeps}
use Rattle.unify_laws.proofs.Solved.{among_cases}
use Rattle.clause_model.specs.Canonical.{new_clause, canonical_form, IsCanonical}
use Rattle.rule_laws.specs.Steps.{IsHeld, IsMerge}
use Rattle.rule_laws.specs.Dropping.{IsKnown}
use Rattle.rule_laws.proofs.Merging.{narrows}
use Rattle.map_model.specs.declared.refusal.Refusal.{Refusal}
use Rattle.map_model.specs.declared.refusal.Refusal.TheVariants.{NoAtom, RepeatedPosition, NotEqualAtoms}
use Rattle.map_model.specs.State.{Entry, State}
use Rattle.map_model.specs.SameTree.{same_tree}
use Rattle.map_model.specs.Rewriting.{Draft}
use Rattle.map_model.specs.Merging.{atom_of, first_broken, merged}
use Rattle.fold_model.specs.Positions.{in_range}
use Rattle.state_laws.specs.KeptState.{marked, live_of, base_of, defined_by, known_of, IsKeptState}
use Rattle.state_laws.proofs.SameTree.{same_tree_is}
use Rattle.state_laws.proofs.Held.{new_is_held, without_is_held}
use Rattle.state_laws.proofs.Known.{Speaks, new_is_known, without_speaks}
use Rattle.state_laws.proofs.Live.{goes_from}
use Rattle.state_laws.proofs.Made.{Makes, entry_for}
use Rattle.state_laws.proofs.Rewritten.{Rewrites, is_marked, drafted_by, now_live, was, kept, old, state_after, entry_held, entry_canonical, entry_known}
use Rattle.state_laws.proofs.Unfolded.{place_of}

-- ---- the positions of a merge that is not refused
pub record Positions (atoms : List (Tree ℕ)) (i j : ℕ) : Type 0 where
  low : 0 < i
  high : i - 1 < length atoms
  other_low : 0 < j
  other_high : j - 1 < length atoms
  apart : i ≢ j
  same : slice_index_or atoms (i - 1) (Var 0) ≡ slice_index_or atoms (j - 1) (Var 0)

no_refusal : (r : Refusal) → ◌≡◌ {A = Option Refusal} (Some r) None → ⊥
no_refusal r e = cc

different : (m n : ℕ) → nat_eq m n ≡ false → m ≢ n
different m n h e = let k = eq-eqb m n e in cc

pub positions : (atoms : List (Tree ℕ)) (i j : ℕ) → first_broken atoms i j ≡ None → Positions atoms i j
positions atoms i j = by (in_range (length atoms) i) refl (in_range (length atoms) j) refl (nat_eq i j) refl (same_tree (atom_of atoms i) (atom_of atoms j)) refl
  where
    by : (a : Bool) → in_range (length atoms) i ≡ a → (b : Bool) → in_range (length atoms) j ≡ b → (c : Bool) → nat_eq i j ≡ c → (d : Bool) → same_tree (atom_of atoms i) (atom_of atoms j) ≡ d
        → (if not a then Some (NoAtom i) else (if not b then Some (NoAtom j) else (if c then Some (RepeatedPosition j) else (if not d then Some (NotEqualAtoms i j) else None)))) ≡ None
        → Positions atoms i j
    by false ea b eb c ec d ed h = absurd (no_refusal (NoAtom i) h)
    by true ea false eb c ec d ed h = absurd (no_refusal (NoAtom j) h)
    by true ea true eb true ec d ed h = absurd (no_refusal (RepeatedPosition j) h)
    by true ea true eb false ec false ed h = absurd (no_refusal (NotEqualAtoms i j) h)
    by true ea true eb false ec true ed h =
        let p = place_of (length atoms) i ea in
        let q = place_of (length atoms) j eb in
        record { low = p.0; high = p.1; other_low = q.0; other_high = q.1; apart = different i j ec; same = same_tree_is _ _ ed }

-- any default serves within the list
other_default : {A : Type 0} (xs : List A) (k : ℕ) (d e : A) → k < length xs → slice_index_or xs k d ≡ slice_index_or xs k e
other_default [] k d e h = absurd (omega arith)
other_default (x ∷ xs) zero d e h = refl
other_default (x ∷ xs) (suc k) d e h = other_default xs k d e (omega arith)

pub has_twice : (c : Clause) (i j : ℕ) → Positions c.body i j → HasTwice c (i - 1) (j - 1)
has_twice c i j p =
    let a = p.low in let b = p.other_low in
    record {
      apart = λ e. p.apart (omega arith);
      first_within = p.high;
      second_within = p.other_high;
      same = λ d. other_default c.body (i - 1) d (Var 0) p.high ∙ p.same ∙ other_default c.body (j - 1) (Var 0) d p.other_high;
    }

-- an accepted merge in a live clause that has an atom twice
module _ (s t : State) (id i j : ℕ) (e : Entry) (rewrites : Rewrites s t id e (merged e id j ∷ [])) (twice : HasTwice e.clause (i - 1) (j - 1)) where
  abbrev drafts : List Draft
  drafts = merged e id j ∷ []

  abbrev less : Clause
  less = without_atom e.clause (j - 1)

  abbrev narrower : Marked
  narrower = record { clause = canonical_form less; mark = e.mark }

  module _ (k : IsKeptState s) where
    e_held : IsHeld e.clause
    e_held = entry_held s k e (goes_from e s.entries (id - 1) rewrites.here rewrites.is_live)

    e_canonical : IsCanonical e.clause
    e_canonical = entry_canonical s k e (goes_from e s.entries (id - 1) rewrites.here rewrites.is_live)

    less_speaks : Speaks (known_of s) less
    less_speaks = without_speaks (known_of s) e.clause (j - 1) (entry_known s k e (goes_from e s.entries (id - 1) rewrites.here rewrites.is_live))

    -- each new entry is that of the narrower clause
    new_is : (d : Draft) (x : Entry) (n : ℕ) → Among d drafts → Makes n d x → (marked x ≡ narrower) × IsHeld x.clause × IsCanonical x.clause × IsKnown (known_of s) x.clause
    new_is d x n a m = among_cases a
        (λ q.
        let c : new_clause less ≡ Ok x.clause = ap (λ (y : Draft). new_clause y.clause) (sym q) ∙ m.clause in
        let h = new_is_held less x.clause (without_is_held e.clause (j - 1) e_held) e_canonical.rising c in
        (is_marked x (canonical_form less) e.mark h.0 (m.mark ∙ ap (λ (y : Draft). y.mark) q), h.1, h.2, new_is_known (known_of s) less x.clause h.0 less_speaks))
        (λ b. elim b [ ])

    made_now : Contains (live_of t) narrower
    made_now =
        let v = entry_for (length s.steps + 1) drafts rewrites.entries rewrites.made (merged e id j) first in
        subst (λ y. Contains (live_of t) y) (new_is (merged e id j) v.0 (length s.steps + 1) first v.2).0 (now_live s t id e drafts rewrites v.0 v.1)

    is_merge : IsMerge (live_of s) (live_of t) (marked e) (i - 1) (j - 1)
    is_merge = record {
      was = was s t id e drafts rewrites;
      held = e_held;
      twice = twice;
      now = made_now;
      kept = kept s t id e drafts rewrites;
      old = λ r l. elim (old s t id e drafts rewrites r l) [
        | inl a ↦ inr a
        | inr m ↦ let d = drafted_by s t id e drafts rewrites m.0 m.1 in inl (m.2 ∙ (new_is d.0 m.0 (length s.steps + 1) d.1 d.2).0)
      ];
    }

    pub merge_keeps_state : IsKeptState t
    merge_keeps_state = state_after s t id e drafts rewrites k
        (narrowing_keeps (setting (defined_by s)) (Contains (base_of s)) (Contains (live_of s)) (Contains (live_of t)) (marked e) narrower (narrows (defined_by s) (live_of s) (live_of t) (marked e) (i - 1) (j - 1) is_merge) k.ranked)
        (λ x a. let d = drafted_by s t id e drafts rewrites x a in let h = new_is d.0 x (length s.steps + 1) d.1 d.2 in (h.1, h.2, h.3))

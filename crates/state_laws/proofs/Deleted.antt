-- An accepted step that deletes a clause without instance keeps the state.
use Rattle.std.proofs.Common.{ℕ, [], inl, inr}
use Rattle.std.specs.Prelude.{Contains}
use Rattle.clp_model.proofs.Membership.{Among}
use Rattle.clp_rank.specs.Entries.{setting}
use Rattle.clp_rank.proofs.SameInstances.{same_instances_keep}
use Rattle.clause_laws.specs.Laws.{HasNoInstance}
use Rattle.rule_laws.specs.Rows.{IsDeletion}
use Rattle.rule_laws.proofs.RowRules.{deletion_keeps}
use Rattle.map_model.specs.State.{Entry, State}
use Rattle.state_laws.specs.KeptState.{marked, live_of, base_of, defined_by, IsKeptState}
use Rattle.state_laws.proofs.Rewritten.{Rewrites, drafted_by, was, kept, old, state_after}

module _ (s t : State) (id : ℕ) (e : Entry) (rewrites : Rewrites s t id e []) (none : HasNoInstance e.clause) (k : IsKeptState s) where
  nothing_new : (x : Entry) → Among x rewrites.entries → ⊥
  nothing_new x a = let d = drafted_by s t id e [] rewrites x a in elim d.1 [ ]

  is_deletion : IsDeletion (live_of s) (live_of t) (marked e)
  is_deletion = record {
    was = was s t id e [] rewrites;
    kept = kept s t id e [] rewrites;
    old = λ r l. elim (old s t id e [] rewrites r l) [ inl a ↦ a | inr m ↦ absurd (nothing_new m.0 m.1) ];
  }

  pub deleted_keeps_state : IsKeptState t
  deleted_keeps_state = state_after s t id e [] rewrites k
      (same_instances_keep (setting (defined_by s)) (Contains (base_of s)) (Contains (live_of s)) (Contains (live_of t)) (marked e) (deletion_keeps (defined_by s) (live_of s) (live_of t) (marked e) none is_deletion) k.ranked)
      (λ x a. absurd (nothing_new x a))

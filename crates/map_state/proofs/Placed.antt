-- What the rules come to that put one clause in the place of another.
use Rattle.std.proofs.Common.{◌≡◌, ◌+◌, ◌≤◌, ℕ, List, [], ◌∷◌, length, refl, ap, ◌∙◌, sym, Bool, true, false}
use Rattle.std.specs.Prelude.{Option, Some, None, Result, Ok, Err, nat_lt, ◌||◌, if◌then◌else◌}
use Rattle.std.proofs.lemmas.Bool.{ltb-false}
use Rattle.clp_model.specs.declared.tree.Variable.{Variable}
use Rattle.clp_model.specs.declared.tree.Tree.{Tree}
use Rattle.clp_model.specs.declared.limit.Limit.TheVariants.{Shape, Atoms, Variables, Rows}
use Rattle.clp_model.specs.Clauses.{Clause}
use Rattle.clp_model.specs.Canonical.{clause_size, clause_depth}
use Rattle.clause_model.specs.Canonical as clauses
use Rattle.clause_model.specs.Canonical.{new_clause, limit_past}
use Rattle.clause_store.specs.declared.clause.Clause.{Clause as Kept}
use Rattle.clause_store.specs.Stored.{clause_in, raw_in, IsStored}
use Rattle.farkas_check.specs.declared.cert.Cert.{Cert}
use Rattle.map_model.specs.declared.shown.Shown.{Shown}
use Rattle.map_model.specs.declared.shown.Shown.TheVariants.{Given}
use Rattle.map_model.specs.declared.step.Step.{Step}
use Rattle.map_model.specs.declared.refusal.Refusal.{Refusal}
use Rattle.map_model.specs.State.{Entry, State, live_at}
use Rattle.map_model.specs.Rewriting.{Rewriting, new_entry, put_first, replaced_by, refusal_of, unless_broken}
use Rattle.map_model.specs.Replacing.{for_entry, in_place, in_place_by}
use Rattle.map_state.specs.declared.change.Replacement.{Replacement}
use Rattle.map_state.specs.Changes.{placed}

-- ---- the rows of a stored clause
few_by : (a b c d : Bool) → (if a then Some Shape else (if b then Some Atoms else (if c then Some Variables else (if d then Some Rows else None)))) ≡ None → d ≡ false
few_by true b c d h = absurd (cc (h))
few_by false true c d h = absurd (cc (h))
few_by false false true d h = absurd (cc (h))
few_by false false false true h = absurd (cc (h))
few_by false false false false h = refl

within_rows : (c : Clause) → limit_past c ≡ None → nat_lt 128 (length c.rows) ≡ false
unfolding limit_past
within_rows c h = few_by (nat_lt 4096 (clause_size c) || nat_lt 256 (clause_depth c)) (nat_lt 64 (length c.body)) (nat_lt 256 (length c.sorts)) (nat_lt 128 (length c.rows)) h

pub few_rows : (store : List (Tree Variable)) (c : Kept) → IsStored store c → length c.rows ≤ 128
few_rows store c h = ltb-false 128 (length c.rows) (within_rows (clause_in store c) h.canonical.limits)

-- ---- new clauses that are made alike
module _ (s : State) (id : ℕ) (e : Entry) (step : Step) where
  abbrev by_clause : Clause → Rewriting
  by_clause c = record { dead = id ∷ []; made = record { clause = c; mark = e.mark; parents = id ∷ [] } ∷ []; defines = None; step = step }

  abbrev where_made : Clause → Result Clause clauses.Refusal → Result State Refusal
  where_made c made = replaced_by s (by_clause c) (put_first (new_entry (length s.steps + 1) e.mark (id ∷ [])) made (Ok []))

  alike : (c d : Clause) (made : Result Clause clauses.Refusal) → where_made c made ≡ where_made d made
  alike c d (Ok x) = refl
  alike c d (Err x) = refl

  pub same_in_place : (c d : Clause) → new_clause c ≡ new_clause d → in_place s id e c step ≡ in_place s id e d step
  same_in_place c d h = alike c d (new_clause c) ∙ ap (where_made d) h

  pub refused_in_place : (c : Clause) (x : clauses.Refusal) → new_clause c ≡ Err x → in_place s id e c step ≡ Err (refusal_of x)
  refused_in_place c x h = ap (where_made c) h

-- ---- conditions
pub broken_is : (o : Option Refusal) (x : Refusal) (next : Result State Refusal) → o ≡ Some x → unless_broken o next ≡ Err x
broken_is o x next h = ap (λ (p : Option Refusal). unless_broken p next) h

pub unbroken_is : (o : Option Refusal) (next : Result State Refusal) → o ≡ None → unless_broken o next ≡ next
unbroken_is o next h = ap (λ (p : Option Refusal). unless_broken p next) h

-- ---- the live clause with this id
module _ (s : State) (id : ℕ) (e : Entry) (live : Some e ≡ live_at s id) where
  pub at_entry : (next : Entry → Result State Refusal) → for_entry id next (live_at s id) ≡ next e
  at_entry next = ap (for_entry id next) (sym live)

  -- parts that make the same new clause
  pub placed_as : (r : Replacement) (c : Clause) → new_clause (raw_in r.scratch r.raw) ≡ new_clause c → placed s id r ≡ in_place s id e c r.step
  placed_as r c h = at_entry (λ f. in_place s id f (raw_in r.scratch r.raw) r.step) ∙ same_in_place s id e r.step (raw_in r.scratch r.raw) c h

  -- a rule whose conditions hold and that is shown by a certificate
  pub placed_by : (o : Option Refusal) (c : Clause) (step : Shown → Step) (shown : Result Cert Refusal) (certificate : Cert) (r : Replacement)
      → o ≡ None → shown ≡ Ok certificate → new_clause (raw_in r.scratch r.raw) ≡ new_clause c → r.step ≡ step (Given certificate)
      → unless_broken o (in_place_by s id e c step shown) ≡ placed s id r
  placed_by o c step shown certificate r none by same is =
      unbroken_is o (in_place_by s id e c step shown) none ∙ ap (in_place_by s id e c step) by ∙ ap (in_place s id e c) (sym is) ∙ sym (placed_as r c same)

  -- one that is not shown
  pub not_shown : (o : Option Refusal) (c : Clause) (step : Shown → Step) (shown : Result Cert Refusal) (x : Refusal)
      → o ≡ None → shown ≡ Err x → unless_broken o (in_place_by s id e c step shown) ≡ Err x
  not_shown o c step shown x none by = unbroken_is o (in_place_by s id e c step shown) none ∙ ap (in_place_by s id e c step) by

  -- one whose new clause is refused
  pub not_made : (o : Option Refusal) (c : Clause) (step : Shown → Step) (shown : Result Cert Refusal) (certificate : Cert) (x : clauses.Refusal)
      → o ≡ None → shown ≡ Ok certificate → new_clause c ≡ Err x → unless_broken o (in_place_by s id e c step shown) ≡ Err (refusal_of x)
  not_made o c step shown certificate x none by h =
      unbroken_is o (in_place_by s id e c step shown) none ∙ ap (in_place_by s id e c step) by ∙ refused_in_place s id e (step (Given certificate)) c x h

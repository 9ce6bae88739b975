-- What the canonical form and the rules keep of clauses, steps and scripts keep of the live clauses and the kept definitions.
use Rattle.std.proofs.Common.{◌≡◌, ℕ, zero, suc, ◌+◌, ◌-◌, List, [], ◌∷◌, ◌++◌, length, refl, ap, subst, Bool, true, false, map}
use Rattle.std.specs.Prelude.{if◌then◌else◌, nat_lt, All, slice_index_or, Option, Some, None, option_map, Result, Ok, Err}
use Rattle.std.proofs.lemmas.List.Elements.{All-nil, All-cons, All-head, All-tail, All-append}
use Rattle.clp_model.specs.declared.limit.Limit.{Limit}
use Rattle.clp_model.specs.declared.predicate.Pred.{Pred}
use Rattle.clp_model.specs.Clauses.{Clause, Row}
use Rattle.clp_model.proofs.Membership.{Among, first, next, from_among}
use Rattle.clp_meaning.specs.Laws.{without_atom}
use Rattle.clause_model.specs.Canonical as clauses
use Rattle.clause_model.specs.Canonical.{new_clause}
use Rattle.clause_model.specs.Load.{load_one}
use Rattle.clause_store.specs.declared.source.SourceClause.{SourceClause}
use Rattle.clause_store.specs.Source.{meaning_of}
use Rattle.clp_model.specs.Predicates.{predicate_of, same_predicate}
use Rattle.unify_model.specs.Substituting.{Binding}
use Rattle.fold_model.specs.Images.{matched_atoms}
use Rattle.fold_model.specs.Folded.{folded_clause}
use Rattle.unfold_model.specs.Resolvent.{resolvent}
use Rattle.replace_model.specs.Rows.{with_row, without_row, projected, equated}
use Rattle.map_model.specs.declared.step.Step.{Step}
use Rattle.map_model.specs.declared.step.Step.TheVariants.{Define}
use Rattle.map_model.specs.declared.refusal.Refusal.{Refusal}
use Rattle.map_model.specs.State.{Entry, State, entries_where, is_live, clauses_of, entry_of, if_live, definition_among, loaded_entry, start_state}
use Rattle.map_model.specs.Rewriting.{Draft, Rewriting, new_entry, put_first, new_entries, changed_at, dead_entry, killed, kept_by, replaced, state_limit, unless_limit, replaced_by, rewritten}
use Rattle.map_model.specs.Unfolding.{drafted, resolvent_with, resolvents_from}
use Rattle.map_model.specs.Folding.{images}
use Rattle.map_model.specs.After.{after, go_on, run_from, run}
use Rattle.fill_laws.specs.Accepted.{IsRewriting, defines, unfolds, folds, deletes_false, merges, adds, drops, projects, equates}
use Rattle.fill_laws.proofs.Accepted.{accepted_is}
use Rattle.name_laws.specs.Names.{AreOver, EachPlaced, EachKept, IsStepOver}
use Rattle.name_laws.specs.Laws.{StartKeepsNames, StepKeepsNames, RunKeepsNames}
use Rattle.name_laws.proofs.Clauses.{some_is, new_keeps, resolvent_keeps, without_keeps, row_rules_keep}
use Rattle.name_laws.proofs.Loading.{loaded_keeps}
use Rattle.name_laws.proofs.Folding.{folded_keeps}

-- what the rules make of clauses that are so is so, and what steps that are so define
record IsKept (P : Clause → Type 0) (S : Step → Type 0) : Type 0 where
  new_one : (c d : Clause) → P c → new_clause c ≡ Ok d → P d
  resolved : (c : Clause) (i : ℕ) (e d : Clause) → P c → P e → resolvent c i e ≡ Some d → P d
  shorter : (c : Clause) (i : ℕ) → P c → P (without_atom c i)
  added : (c : Clause) (r : Row) → P c → P (with_row c r)
  dropped : (c : Clause) (i : ℕ) → P c → P (without_row c i)
  eliminated : (c : Clause) (v : ℕ) → P c → P (projected c v)
  renamed : (c : Clause) (v w : ℕ) → P c → P (equated c v w)
  loaded : (source : SourceClause) (c : Clause) → S (Define source) → load_one (meaning_of source) ≡ Ok (Some c) → P c
  folded : (n c : Clause) (at with keep : List ℕ) (bs : List Binding) → P n → P c → matched_atoms n c at ≡ Some bs → P (folded_clause n c (images n c with bs) at keep)

entry_is : {x y : Entry} → ◌≡◌ {A = Option Entry} (Some x) (Some y) → x ≡ y
entry_is {x} e = let back : Option Entry → Entry = elim [ Some z ↦ z | None ↦ x ] in ap back e

entries_are : {x y : List Entry} → ◌≡◌ {A = Result (List Entry) Refusal} (Ok x) (Ok y) → x ≡ y
entries_are {x} e = let back : Result (List Entry) Refusal → List Entry = elim [ Ok z ↦ z | Err r ↦ x ] in ap back e

state_is : {x y : State} → ◌≡◌ {A = Result State Refusal} (Ok x) (Ok y) → x ≡ y
state_is {x} e = let back : Result State Refusal → State = elim [ Ok z ↦ z | Err r ↦ x ] in ap back e

last_is : {x y : State} → ◌≡◌ {A = Result State (ℕ × Refusal)} (Ok x) (Ok y) → x ≡ y
last_is {x} e = let back : Result State (ℕ × Refusal) → State = elim [ Ok z ↦ z | Err r ↦ x ] in ap back e

module _ (P : Clause → Type 0) where
  -- ---- the live ones of entries by id
  abbrev IfLive : Entry → Type 0
  IfLive e = e.live ≡ true → P e.clause

  abbrev LiveAre : List (Option Entry) → Type 0
  LiveAre [] = Unit {0}
  LiveAre (None ∷ es) = LiveAre es
  LiveAre (Some e ∷ es) = IfLive e × LiveAre es

  live_from : (es : List (Option Entry)) → All P (clauses_of (entries_where is_live es)) → LiveAre es
  live_from [] h = tt
  live_from (None ∷ es) h = live_from es h
  live_from (Some e ∷ es) h = by e.live refl (λ k. live_from es k) h
    where
      by : (b : Bool) → e.live ≡ b → (All P (clauses_of (entries_where is_live es)) → LiveAre es) → All P (clauses_of (if b then e ∷ entries_where is_live es else entries_where is_live es)) → IfLive e × LiveAre es
      by true l again k = ((λ _. All-head P e.clause (clauses_of (entries_where is_live es)) k), again (All-tail P e.clause (clauses_of (entries_where is_live es)) k))
      by false l again k = ((λ m. absurd (cc)), again k)

  live_to : (es : List (Option Entry)) → LiveAre es → All P (clauses_of (entries_where is_live es))
  live_to [] h = All-nil P
  live_to (None ∷ es) h = live_to es h
  live_to (Some e ∷ es) h = by e.live refl (live_to es h.1)
    where
      by : (b : Bool) → e.live ≡ b → All P (clauses_of (entries_where is_live es)) → All P (clauses_of (if b then e ∷ entries_where is_live es else entries_where is_live es))
      by true l k = All-cons P e.clause (clauses_of (entries_where is_live es)) (h.0 l) k
      by false l k = k

  live_changed : (es : List (Option Entry)) (place : ℕ) → LiveAre es → LiveAre (changed_at dead_entry es place)
  live_changed [] place h = tt
  live_changed (None ∷ es) zero h = h
  live_changed (Some e ∷ es) zero h = ((λ m. absurd (cc)), h.1)
  live_changed (None ∷ es) (suc place) h = live_changed es place h
  live_changed (Some e ∷ es) (suc place) h = (h.0, live_changed es place h.1)

  live_killed : (es : List (Option Entry)) (ids : List ℕ) → LiveAre es → LiveAre (killed es ids)
  live_killed es [] h = h
  live_killed es (id ∷ ids) h = live_killed (changed_at dead_entry es (id - 1)) ids (live_changed es (id - 1) h)

  abbrev AllNew : List Entry → Type 0
  AllNew [] = Unit {0}
  AllNew (e ∷ es) = P e.clause × AllNew es

  live_more : (es : List (Option Entry)) (new : List Entry) → LiveAre es → AllNew new → LiveAre (es ++ map Some new)
  live_more [] [] h k = tt
  live_more [] (e ∷ new) h k = ((λ _. k.0), live_more [] new h k.1)
  live_more (None ∷ es) new h k = live_more es new h k
  live_more (Some e ∷ es) new h k = (h.0, live_more es new h.1 k)

  -- the clause of the live entry with an id
  live_there : (es : List (Option Entry)) (n : ℕ) (e : Entry) → LiveAre es → if_live (slice_index_or es n None) ≡ Some e → P e.clause
  live_there [] n e h k = absurd (cc)
  live_there (None ∷ es) zero e h k = absurd (cc)
  live_there (Some x ∷ es) zero e h k = by x.live refl k
    where
      by : (b : Bool) → x.live ≡ b → (if b then Some x else None) ≡ Some e → P e.clause
      by true l q = subst (λ (z : Entry). P z.clause) (entry_is q) (h.0 l)
      by false l q = absurd (cc)
  live_there (None ∷ es) (suc n) e h k = live_there es n e h k
  live_there (Some x ∷ es) (suc n) e h k = live_there es n e h.1 k

  live_with : (es : List (Option Entry)) (id : ℕ) (e : Entry) → LiveAre es → if_live (entry_of es id) ≡ Some e → P e.clause
  live_with es id e h k = by (nat_lt 0 id) k
    where
      by : (b : Bool) → if_live (if b then slice_index_or es (id - 1) None else None) ≡ Some e → P e.clause
      by true q = live_there es (id - 1) e h q
      by false q = absurd (cc)

  abbrev AllDrafts : List Draft → Type 0
  AllDrafts [] = Unit {0}
  AllDrafts (d ∷ ds) = P d.clause × AllDrafts ds

  drafts_both : (ds es : List Draft) → AllDrafts ds → AllDrafts es → AllDrafts (ds ++ es)
  drafts_both [] es h k = k
  drafts_both (d ∷ ds) es h k = (h.0, drafts_both ds es h.1 k)

  -- the definitions that are kept
  defined_are : (o : Option Pred) (entries : List Entry) → AllNew entries → All P (kept_by o entries)
  defined_are None entries h = All-nil P
  defined_are (Some d) [] h = All-nil P
  defined_are (Some d) (e ∷ es) h = All-cons P e.clause (clauses_of es) h.0 (defined_are (Some d) es h.1)

  among_definitions : (cs : List Clause) (d : Pred) (n : Clause) → All P cs → definition_among cs d ≡ Some n → P n
  among_definitions [] d n h e = absurd (cc)
  among_definitions (c ∷ cs) d n h e = by (same_predicate (predicate_of c.head) d) (λ k. among_definitions cs d n (All-tail P c cs h) k) e
    where
      by : (b : Bool) → (definition_among cs d ≡ Some n → P n) → (if b then Some c else definition_among cs d) ≡ Some n → P n
      by true again k = subst P (some_is k) (All-head P c cs h)
      by false again k = again k

  abbrev IsSo : State → Type 0
  IsSo s = LiveAre s.entries × All P s.definitions

  so_from : (s : State) → EachKept P s → IsSo s
  so_from s h = (live_from s.entries h.0, h.1)

  so_to : (s : State) → IsSo s → EachKept P s
  so_to s h = (live_to s.entries h.0, h.1)

  module _ (S : Step → Type 0) (kept : IsKept P S) where
    -- ---- a rewriting
    new_kept : (number : ℕ) (ds : List Draft) (entries : List Entry) → AllDrafts ds → new_entries number ds ≡ Ok entries → AllNew entries
    new_kept number [] entries h e = subst AllNew (entries_are e) tt
    new_kept number (d ∷ ds) entries h e = by (new_clause d.clause) refl (new_entries number ds) (λ es k. new_kept number ds es h.1 k) e
      where
        by : (o : Result Clause clauses.Refusal) → new_clause d.clause ≡ o → (rest : Result (List Entry) Refusal) → ((es : List Entry) → rest ≡ Ok es → AllNew es)
            → put_first (new_entry number d.mark d.parents) o rest ≡ Ok entries → AllNew entries
        by (Ok c) q (Ok es) again k = subst AllNew (entries_are k) (kept.new_one d.clause c h.0 q, again es refl)
        by (Ok c) q (Err r) again k = absurd (cc)
        by (Err r) q rest again k = absurd (cc)

    rewritten_kept : (s : State) (r : Rewriting) (t : State) → IsSo s → AllDrafts r.made → rewritten s r ≡ Ok t → IsSo t
    rewritten_kept s r t h k e = by (new_entries (length s.steps + 1) r.made) refl e
      where
        within : (entries : List Entry) → AllNew entries → (o : Option Limit) → unless_limit o (replaced s r.dead entries r.defines r.step) ≡ Ok t → IsSo t
        within entries new None q =
            subst IsSo (state_is q)
            (live_more (killed s.entries r.dead) entries (live_killed s.entries r.dead h.0) new, All-append P s.definitions (kept_by r.defines entries) h.1 (defined_are r.defines entries new))
        within entries new (Some limit) q = absurd (cc)

        by : (o : Result (List Entry) Refusal) → new_entries (length s.steps + 1) r.made ≡ o → replaced_by s r o ≡ Ok t → IsSo t
        by (Ok entries) n q = within entries (new_kept (length s.steps + 1) r.made entries k n) (state_limit (replaced s r.dead entries r.defines r.step)) q
        by (Err refusal) n q = absurd (cc)

    -- ---- the rules
    drafted_kept : (id place : ℕ) (c e : Clause) (i : ℕ) → P c → P e → AllDrafts (drafted id place (resolvent c i e))
    drafted_kept id place c e i h k = by (resolvent c i e) refl
      where
        by : (o : Option Clause) → resolvent c i e ≡ o → AllDrafts (drafted id place o)
        by None q = tt
        by (Some d) q = (kept.resolved c i e d h k q, tt)

    with_kept : (id : ℕ) (c : Clause) (i place : ℕ) (e : Entry) → P c → IfLive e → AllDrafts (resolvent_with id c i place e)
    with_kept id c i place e h k = by e.live refl
      where
        by : (b : Bool) → e.live ≡ b → AllDrafts (if b then drafted id place (resolvent c i e.clause) else [])
        by true l = drafted_kept id place c e.clause i h (k l)
        by false l = tt

    resolvents_kept : (id : ℕ) (c : Clause) (i place : ℕ) (es : List (Option Entry)) → P c → LiveAre es → AllDrafts (resolvents_from id c i place es)
    resolvents_kept id c i place [] h k = tt
    resolvents_kept id c i place (None ∷ es) h k = resolvents_kept id c i (suc place) es h k
    resolvents_kept id c i place (Some e ∷ es) h k =
        drafts_both (resolvent_with id c i place e) (resolvents_from id c i (suc place) es) (with_kept id c i place e h k.0) (resolvents_kept id c i (suc place) es h k.1)

    made_kept : (s : State) (step : Step) (r : Rewriting) → IsRewriting s step r → IsSo s → S step → AllDrafts r.made
    made_kept s _ _ (defines {source} {c} q r) h a = (kept.loaded source c a q, tt)
    made_kept s _ _ (unfolds {id} {at} {e} q r) h a = resolvents_kept id e.clause (at - 1) 1 s.entries (live_with s.entries id e h.0 q) h.0
    made_kept s _ _ (folds {id} {at} {by} {with} {keep} {show} {e} {n} {bs} {cs} q u d i m b k) h a =
        (kept.folded n e.clause at with keep bs (among_definitions s.definitions by n h.1 d) (live_with s.entries id e h.0 q) m, tt)
    made_kept s _ _ (deletes_false q r) h a = tt
    made_kept s _ _ (merges {id} {i} {j} {e} q r) h a = (kept.shorter e.clause (j - 1) (live_with s.entries id e h.0 q), tt)
    made_kept s _ _ (adds {id} {row} {show} {e} q r k) h a = (kept.added e.clause row (live_with s.entries id e h.0 q), tt)
    made_kept s _ _ (drops {id} {i} {show} {e} q r k) h a = (kept.dropped e.clause (i - 1) (live_with s.entries id e h.0 q), tt)
    made_kept s _ _ (projects {id} {v} {e} q r) h a = (kept.eliminated e.clause v (live_with s.entries id e h.0 q), tt)
    made_kept s _ _ (equates {id} {v} {u} {show} {e} q r k) h a = (kept.renamed e.clause v u (live_with s.entries id e h.0 q), tt)

    after_kept : (s t : State) (step : Step) → IsSo s → S step → after s step ≡ Ok t → IsSo t
    after_kept s t step h a e = let w = accepted_is s t step e in rewritten_kept s w.0 t h (made_kept s step w.0 w.1 h a) w.2

    run_kept : (number : ℕ) (s t : State) (steps : List Step) → IsSo s → All S steps → run_from number s steps ≡ Ok t → IsSo t
    run_kept number s t [] h a e = subst IsSo (last_is e) h
    run_kept number s t (step ∷ steps) h a e = by (after s step) refl (λ u k q. run_kept (suc number) u t steps k (All-tail S step steps a) q) e
      where
        by : (o : Result State Refusal) → after s step ≡ o → ((u : State) → IsSo u → run_from (suc number) u steps ≡ Ok t → IsSo t)
            → go_on number (λ u. run_from (suc number) u steps) o ≡ Ok t → IsSo t
        by (Ok u) r again q = again u (after_kept s u step h (All-head S step steps a) r) q
        by (Err x) r again q = absurd (cc)

    step_keeps : (s t : State) (step : Step) → EachKept P s → S step → after s step ≡ Ok t → EachKept P t
    step_keeps s t step h a e = so_to t (after_kept s t step (so_from s h) a e)

    run_keeps : (s t : State) (steps : List Step) → EachKept P s → All S steps → run s steps ≡ Ok t → EachKept P t
    run_keeps s t steps h a e = so_to t (run_kept 1 s t steps (so_from s h) a e)

  -- ---- the start
  loaded_live : (clauses : List (Option Clause)) → ((c : Clause) → Among (Some c) clauses → P c) → LiveAre (map (option_map loaded_entry) clauses)
  loaded_live [] h = tt
  loaded_live (None ∷ cs) h = loaded_live cs (λ c m. h c (next m))
  loaded_live (Some c ∷ cs) h = ((λ _. h c first), loaded_live cs (λ d m. h d (next m)))

  start_has : (clauses : List (Option Clause)) (predicates : List Pred) → EachPlaced P clauses → EachKept P (start_state clauses predicates)
  start_has clauses predicates h = (live_to (map (option_map loaded_entry) clauses) (loaded_live clauses (λ c m. h c (from_among m))), All-nil P)

names_kept : (p : List ℕ → Bool) (q : Pred → Bool) → IsKept (AreOver p q) (IsStepOver p q)
names_kept p q = record {
  new_one = new_keeps p q;
  resolved = resolvent_keeps p q;
  shorter = without_keeps p q;
  added = λ c r h. (row_rules_keep p q c h).0 r;
  dropped = λ c i h. (row_rules_keep p q c h).1 i;
  eliminated = λ c v h. (row_rules_keep p q c h).2 v;
  renamed = λ c v w h. (row_rules_keep p q c h).3 v w;
  loaded = λ source c a e. loaded_keeps p q (meaning_of source) c a.0 a.1 e;
  folded = folded_keeps p q;
}

pub start_keeps_names : StartKeepsNames
start_keeps_names p q clauses predicates h = start_has (AreOver p q) clauses predicates h

pub step_keeps_names : StepKeepsNames
step_keeps_names p q s t step h a e = step_keeps (AreOver p q) (IsStepOver p q) (names_kept p q) s t step h a e

pub run_keeps_names : RunKeepsNames
run_keeps_names p q s t steps h a e = run_keeps (AreOver p q) (IsStepOver p q) (names_kept p q) s t steps h a e

-- What an accepted step has done: one clause is gone, and its new ones have come.
use Rattle.std.proofs.Common.{◌≡◌, ℕ, ◌+◌, ◌-◌, List, [], ◌∷◌, ◌++◌, length, map, refl, sym, ◌∙◌, ap, subst, arith, ◌⊎◌, inl, inr, Bool, true, false}
use Rattle.std.specs.Prelude.{Option, Some, None, Result, Ok, Err, slice_index_or, nat_eq, nat_lt, if◌then◌else◌, All, Contains}
use Rattle.std.proofs.lemmas.Bool.Decides.{nat_tests}
use Rattle.std.proofs.lemmas.List.{append-nil}
use Rattle.clp_model.specs.declared.limit.Limit.{Limit}
use Rattle.clp_model.specs.Clauses.{Clause}
use Rattle.clp_model.specs.Predicates.{predicate_of}
use Rattle.clp_model.proofs.Membership.{Among, among_front, among_back, among_either, among_mapped, to_among, from_among}
use Rattle.clp_rank.specs.Entries.{Entry as Marked, RankedOver}
use Rattle.clause_model.specs.Canonical.{IsCanonical}
use Rattle.clause_laws.proofs.Rows.{all_each, each_all}
use Rattle.rule_laws.specs.Folding.{defined_in}
use Rattle.rule_laws.specs.Dropping.{IsKnown}
use Rattle.rule_laws.specs.Steps.{IsHeld}
use Rattle.map_model.specs.declared.step.Step.{Step}
use Rattle.map_model.specs.declared.refusal.Refusal.{Refusal}
use Rattle.map_model.specs.State.{Entry, State, entries_where, is_live, is_loaded, live_entries, live_clauses, base_clauses, if_live, live_at, defined_of}
use Rattle.map_model.specs.Rewriting.{Draft, Rewriting, changed_at, dead_entry, new_entries, replaced, state_limit, unless_limit, within_limits, replaced_by, rewritten}
use Rattle.fill_laws.specs.Accepted.{instead}
use Rattle.state_laws.specs.KeptState.{marked, unmarked, live_of, base_of, defined_by, loaded_clauses, known_of, IsRanked, IsKeptDefinition, IsKeptState}
use Rattle.state_laws.specs.Laws.{GrowsBy}
use Rattle.state_laws.proofs.Variables.{among_map}
use Rattle.state_laws.proofs.Known.{Speaks, known_speaks}
use Rattle.state_laws.proofs.Live.{live, some_same, not_some, still_live, was_live, goes_from, where_append, where_all, where_none, loaded_stay}
use Rattle.state_laws.proofs.Made.{Makes, AllMade, all_made, draft_of}

-- the live entry with this id is gone, and the entries of these drafts have come
pub record Rewrites (s t : State) (id : ℕ) (entry : Entry) (drafts : List Draft) : Type 0 where
  pub here : slice_index_or s.entries (id - 1) None ≡ Some entry
  pub is_live : entry.live ≡ true
  pub step : Step
  pub entries : List Entry
  pub made : AllMade (length s.steps + 1) drafts entries
  pub is : t ≡ replaced s (id ∷ []) entries None step

pub state_is : {E : Type 0} {s t : State} → ◌≡◌ {A = Result State E} (Ok s) (Ok t) → s ≡ t
state_is {E} {s} h = let out : Result State E → State = elim [ Ok u ↦ u | Err x ↦ s ] in ap out h

-- ---- the entry that is live
found_live : (s : State) (id : ℕ) (e : Entry) → live_at s id ≡ Some e → (slice_index_or s.entries (id - 1) None ≡ Some e) × (e.live ≡ true)
found_live s id e = by (nat_lt 0 id) (slice_index_or s.entries (id - 1) None) refl
  where
    live_one : (f : Entry) (b : Bool) → f.live ≡ b → (if b then Some f else None) ≡ Some e → (◌≡◌ {A = Option Entry} (Some f) (Some e)) × (e.live ≡ true)
    live_one f true hb h = (h, ap (λ (g : Entry). g.live) (sym (some_same h)) ∙ hb)
    live_one f false hb h = absurd (not_some h)

    by : (b : Bool) (o : Option Entry) → slice_index_or s.entries (id - 1) None ≡ o → if_live (if b then o else None) ≡ Some e → (slice_index_or s.entries (id - 1) None ≡ Some e) × (e.live ≡ true)
    by false o eo h = absurd (not_some h)
    by true None eo h = absurd (not_some h)
    by true (Some f) eo h = let l = live_one f f.live refl h in (eo ∙ l.0, l.1)

-- ---- the new state
within_is : (u t : State) → within_limits u ≡ Ok t → t ≡ u
within_is u t h = by (state_limit u) h
  where
    by : (o : Option Limit) → unless_limit o u ≡ Ok t → t ≡ u
    by None h = sym (state_is h)
    by (Some l) h = absurd (cc)

pub rewritten_is : (s t : State) (r : Rewriting) → rewritten s r ≡ Ok t → (es : List Entry) × AllMade (length s.steps + 1) r.made es × (t ≡ replaced s r.dead es r.defines r.step)
rewritten_is s t r h = by (new_entries (length s.steps + 1) r.made) refl h
  where
    by : (o : Result (List Entry) Refusal) → new_entries (length s.steps + 1) r.made ≡ o → replaced_by s r o ≡ Ok t → (es : List Entry) × AllMade (length s.steps + 1) r.made es × (t ≡ replaced s r.dead es r.defines r.step)
    by (Err x) q h = absurd (cc)
    by (Ok es) q h = (es, all_made (length s.steps + 1) r.made es q, within_is (replaced s r.dead es r.defines r.step) t h)

-- what an accepted step of the entry's clause has done
pub rewrites_of : (s t : State) (id : ℕ) (e : Entry) (drafts : List Draft) (step : Step) → live_at s id ≡ Some e → rewritten s (instead id drafts step) ≡ Ok t → Rewrites s t id e drafts
rewrites_of s t id e drafts step q h =
    let l = found_live s id e q in
    let w = rewritten_is s t (instead id drafts step) h in
    record { here = l.0; is_live = l.1; step = step; entries = w.0; made = w.1; is = w.2 }

pub later_step : (n : ℕ) → nat_eq (n + 1) 0 ≡ false
later_step n = grind (arith, nat_tests)

pub is_marked : (e : Entry) (c : Clause) (b : Bool) → e.clause ≡ c → e.mark ≡ b → marked e ≡ record { clause = c; mark = b }
is_marked e c b p q = ap (λ x. let y : Marked = record { clause = x; mark = e.mark } in y) p ∙ ap (λ x. let y : Marked = record { clause = c; mark = x } in y) q

module _ (s t : State) (id : ℕ) (entry : Entry) (drafts : List Draft) (m : Rewrites s t id entry drafts) where
  abbrev rest : List (Option Entry)
  rest = changed_at dead_entry s.entries (id - 1)

  abbrev number : ℕ
  number = length s.steps + 1

  pub drafted_by : (e : Entry) → Among e m.entries → (d : Draft) × Among d drafts × Makes number d e
  drafted_by e a = draft_of number drafts m.entries m.made e a

  -- ---- what is live
  live_after : live_entries t ≡ live rest ++ m.entries
  live_after =
      ap (λ (u : State). live u.entries) m.is
      ∙ (where_append is_live rest (map Some m.entries) ∙ ap (λ es. live rest ++ es) (where_all is_live m.entries (λ e a. (drafted_by e a).2.live)))

  live_new : (e : Entry) → Among e m.entries → Among e (live_entries t)
  live_new e a = subst (Among e) (sym live_after) (among_back e (live rest) m.entries a)

  pub now_live : (e : Entry) → Among e m.entries → Contains (live_of t) (marked e)
  now_live e a = from_among (among_mapped marked (live_new e a))

  pub was : Contains (live_of s) (marked entry)
  was = from_among (among_mapped marked (goes_from entry s.entries (id - 1) m.here m.is_live))

  pub kept : (x : Marked) → Contains (live_of s) x → (x ≡ marked entry) ⊎ Contains (live_of t) x
  kept x l =
      let k = among_map marked (live_entries s) x (to_among (live_of s) x l) in
      elim (still_live k.0 entry s.entries (id - 1) m.here k.1) [
        | inl q ↦ inl (k.2 ∙ ap marked q)
        | inr n ↦ inr (from_among (subst (λ y. Among y (live_of t)) (sym k.2) (among_mapped marked (subst (Among k.0) (sym live_after) (among_front k.0 (live rest) m.entries n)))))
      ]

  pub old : (x : Marked) → Contains (live_of t) x → Contains (live_of s) x ⊎ ((e : Entry) × Among e m.entries × (x ≡ marked e))
  old x l =
      let k = among_map marked (live_entries t) x (to_among (live_of t) x l) in
      elim (among_either k.0 (live rest) m.entries (subst (Among k.0) live_after k.1)) [
        | inl n ↦ inl (from_among (subst (λ y. Among y (live_of s)) (sym k.2) (among_mapped marked (was_live k.0 s.entries (id - 1) n))))
        | inr n ↦ inr (k.0, n, k.2)
      ]

  all_after : (P : Clause → Type 0) → All P (live_clauses s) → ((e : Entry) → Among e m.entries → P e.clause) → All P (live_clauses t)
  all_after P all new = each_all P (live_clauses t) (λ c a.
      let k = among_map (λ (e : Entry). e.clause) (live_entries t) c a in
      subst P (sym k.2) (elim (among_either k.0 (live rest) m.entries (subst (Among k.0) live_after k.1)) [
        | inl b ↦ all_each P (live_clauses s) all k.0.clause (among_mapped (λ (e : Entry). e.clause) (was_live k.0 s.entries (id - 1) b))
        | inr b ↦ new k.0 b
      ]))

  -- ---- the base
  not_loaded : (e : Entry) → Among e m.entries → is_loaded e ≡ false
  not_loaded e a = ap (λ n. nat_eq n 0) (drafted_by e a).2.made_at ∙ later_step (length s.steps)

  loaded_after : {A : Type 0} (f : Entry → A) → ((e : Entry) → f (record e { live = false }) ≡ f e) → map f (entries_where is_loaded t.entries) ≡ map f (entries_where is_loaded s.entries)
  loaded_after f told =
      ap (λ (u : State). map f (entries_where is_loaded u.entries)) m.is
      ∙ (ap (map f) (where_append is_loaded rest (map Some m.entries) ∙ (ap (λ es. entries_where is_loaded rest ++ es) (where_none is_loaded m.entries not_loaded) ∙ append-nil (entries_where is_loaded rest)))
      ∙ loaded_stay f told s.entries (id - 1))

  definitions_after : t.definitions ≡ s.definitions
  definitions_after = ap (λ (u : State). u.definitions) m.is ∙ append-nil s.definitions

  initials_after : t.initials ≡ s.initials
  initials_after = ap (λ (u : State). u.initials) m.is

  loaded_clauses_after : loaded_clauses t ≡ loaded_clauses s
  loaded_clauses_after = loaded_after (λ e. e.clause) (λ e. refl)

  -- nothing is defined
  pub base_after : GrowsBy [] s t
  base_after = record {
    initials = initials_after;
    loaded = loaded_clauses_after;
    added = [];
    definitions = definitions_after ∙ sym (append-nil s.definitions);
    base =
        ap (λ cs. cs ++ t.definitions) loaded_clauses_after
        ∙ (ap (λ ds. loaded_clauses s ++ ds) definitions_after ∙ sym (append-nil (base_clauses s)));
    stand = tt;
  }

  marked_base_after : base_of t ≡ base_of s
  marked_base_after =
      ap (λ cs. cs ++ map unmarked t.definitions) (loaded_after marked (λ e. refl))
      ∙ ap (λ ds. map marked (entries_where is_loaded s.entries) ++ map unmarked ds) definitions_after

  ranked_after : RankedOver (defined_by s) (base_of s) (live_of t) → IsRanked t
  ranked_after r =
      subst (λ b. RankedOver (defined_by t) b (live_of t)) (sym marked_base_after)
      (subst (λ (ds : List Clause). RankedOver (defined_in (map (λ c. predicate_of c.head) ds)) (base_of s) (live_of t)) (sym definitions_after) r)

  known_after : known_of t ≡ known_of s
  known_after = ap (λ ps. ps ++ defined_of t) initials_after ∙ ap (λ (ds : List Clause). s.initials ++ map (λ c. predicate_of c.head) ds) definitions_after

  pub state_after : IsKeptState s → RankedOver (defined_by s) (base_of s) (live_of t)
      → ((e : Entry) → Among e m.entries → IsHeld e.clause × IsCanonical e.clause × IsKnown (known_of s) e.clause) → IsKeptState t
  state_after k r new = record {
    ranked = ranked_after r;
    held = all_after IsHeld k.held (λ e a. (new e a).0);
    canonical = all_after IsCanonical k.canonical (λ e a. (new e a).1);
    known = subst (λ ps. All (IsKnown ps) (live_clauses t)) (sym known_after) (all_after (IsKnown (known_of s)) k.known (λ e a. (new e a).2));
    loaded_held = subst (All IsHeld) (sym loaded_clauses_after) k.loaded_held;
    loaded_known = subst (λ ps. All (IsKnown ps) (loaded_clauses t)) (sym initials_after) (subst (All (IsKnown s.initials)) (sym loaded_clauses_after) k.loaded_known);
    definitions = subst (λ ps. All (IsKeptDefinition ps) t.definitions) (sym initials_after) (subst (All (IsKeptDefinition s.initials)) (sym definitions_after) k.definitions);
    one_each = subst (λ ds. (m n : Clause) → Contains ds m → Contains ds n → predicate_of m.head ≡ predicate_of n.head → m ≡ n) (sym definitions_after) k.one_each;
  }

-- ---- what a live entry's clause is
module _ (s : State) (k : IsKeptState s) where
  pub entry_held : (e : Entry) → Among e (live_entries s) → IsHeld e.clause
  entry_held e a = all_each IsHeld (live_clauses s) k.held e.clause (among_mapped (λ (x : Entry). x.clause) a)

  pub entry_canonical : (e : Entry) → Among e (live_entries s) → IsCanonical e.clause
  entry_canonical e a = all_each IsCanonical (live_clauses s) k.canonical e.clause (among_mapped (λ (x : Entry). x.clause) a)

  pub entry_known : (e : Entry) → Among e (live_entries s) → Speaks (known_of s) e.clause
  entry_known e a = known_speaks (known_of s) e.clause (all_each (IsKnown (known_of s)) (live_clauses s) k.known e.clause (among_mapped (λ (x : Entry). x.clause) a))

  pub marked_held : (x : Marked) → Contains (live_of s) x → IsHeld x.clause
  marked_held x l =
      let w = among_map marked (live_entries s) x (to_among (live_of s) x l) in
      subst (λ (y : Marked). IsHeld y.clause) (sym w.2) (entry_held w.0 w.1)

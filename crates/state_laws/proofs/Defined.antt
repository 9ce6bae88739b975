-- An accepted definition keeps the state.
use Rattle.std.proofs.Common.{◌≡◌, ℕ, ◌+◌, ◌<◌, List, [], ◌∷◌, ◌++◌, length, map, refl, sym, ◌∙◌, ap, subst, arith, ◌⊎◌, inl, inr, Bool, true, false}
use Rattle.std.specs.Prelude.{Option, Some, None, Result, Ok, Err, nat_eq, ◌||◌, if◌then◌else◌, All, Contains}
use Rattle.std.proofs.lemmas.List.{append-nil, append_assoc, map-append}
use Rattle.std.proofs.lemmas.List.Folds.{list_any-append}
use Rattle.clp_model.specs.declared.predicate.Pred.{Pred}
use Rattle.clp_model.specs.declared.tree.Tree.{Tree}
use Rattle.clp_model.specs.Clauses.{Clause}
use Rattle.clp_model.specs.Predicates.{predicate_of, same_predicate}
use Rattle.clp_model.proofs.Membership.{Among, first, among_front, among_back, among_either, among_mapped, to_among, from_among}
use Rattle.clp_rank.specs.Entries.{Entry as Marked, setting, RankedOver}
use Rattle.clp_rank.specs.Rules.{With}
use Rattle.clp_rank.proofs.Defining.{defining_keeps}
use Rattle.unify_laws.proofs.Solved.{among_cases}
use Rattle.clause_model.specs.Canonical as clauses
use Rattle.clause_model.specs.Canonical.{new_clause, IsCanonical}
use Rattle.clause_laws.specs.Laws.{Stands}
use Rattle.clause_laws.proofs.Rows.{all_each, each_all}
use Rattle.clause_laws.proofs.NewClause.{canonical_is_new}
use Rattle.rule_laws.specs.Steps.{IsHeld}
use Rattle.rule_laws.specs.Dropping.{IsKnown, IsDefinition, OfKnown}
use Rattle.rule_laws.proofs.Dropping.{defines}
use Rattle.map_model.specs.declared.refusal.Refusal.{Refusal}
use Rattle.map_model.specs.declared.refusal.Refusal.TheVariants.{NotFresh, RecursiveDefinition, UnknownPredicate}
use Rattle.map_model.specs.State.{Entry, State, entries_where, is_live, is_loaded, live_entries, live_clauses, defined_of, is_among}
use Rattle.map_model.specs.Rewriting.{Draft, replaced, rewritten, or_next}
use Rattle.map_model.specs.Defining.{not_fresh, head_broken, no_body, atom_broken, body_broken, loose_broken, definition_broken, definition}
use Rattle.state_laws.specs.KeptState.{marked, unmarked, live_of, base_of, defined_by, loaded_clauses, known_of, IsKeptDefinition, IsKeptState}
use Rattle.state_laws.specs.Laws.{GrowsBy}
use Rattle.state_laws.proofs.Predicates.{there_is, front_known, back_known, none_known, predicate_equality}
use Rattle.state_laws.proofs.Known.{speaks_known, known_speaks}
use Rattle.state_laws.proofs.Base.{base_held, live_held}
use Rattle.state_laws.proofs.Live.{live, where_append, where_all, where_none}
use Rattle.state_laws.proofs.Made.{Makes, AllMade}
use Rattle.state_laws.proofs.Ranks.{rank_told}
use Rattle.state_laws.proofs.Rewritten.{rewritten_is, later_step, is_marked}

-- ---- the conditions
neither : (a b : Bool) → (a || b) ≡ false → (a ≡ false) × (b ≡ false)
neither false b h = (refl, h)
neither true b h = absurd (cc)

both_false : (a b : Bool) → a ≡ false → b ≡ false → (a || b) ≡ false
both_false false b h k = k
both_false true b h k = absurd (cc)

first_of : (a b : Option Refusal) → or_next a b ≡ None → (a ≡ None) × (b ≡ None)
first_of None b h = (refl, h)
first_of (Some r) b h = absurd (cc)

unless : (b : Bool) (r : Refusal) → (if b then Some r else None) ≡ None → b ≡ false
unless false r h = refl
unless true r h = absurd (cc)

-- what is asked of the clause of a definition
record MayDefine (s : State) (c : Clause) : Type 0 where
  not_initial : is_among s.initials (predicate_of c.head) ≡ false
  not_defined : is_among (defined_of s) (predicate_of c.head) ≡ false
  has_atom : 0 < length c.body
  each_initial : (t : Tree ℕ) → Among t c.body → is_among s.initials (predicate_of t) ≡ true
  not_own : (t : Tree ℕ) → Among t c.body → same_predicate (predicate_of c.head) (predicate_of t) ≡ false
  each_undefined : (t : Tree ℕ) → Among t c.body → is_among (defined_of s) (predicate_of t) ≡ false

record AtomMay (s : State) (p q : Pred) : Type 0 where
  initial : is_among s.initials q ≡ true
  other : same_predicate p q ≡ false
  undefined : is_among (defined_of s) q ≡ false

atom_may : (s : State) (p q : Pred) → atom_broken s p q ≡ None → AtomMay s p q
atom_may s p q h = by (same_predicate p q || is_among (defined_of s) q) refl (is_among s.initials q) refl h
  where
    by : (a : Bool) → (same_predicate p q || is_among (defined_of s) q) ≡ a → (b : Bool) → is_among s.initials q ≡ b
        → (if a then Some (RecursiveDefinition q) else (if b then None else Some (UnknownPredicate q))) ≡ None → AtomMay s p q
    by true e b k h = absurd (cc)
    by false e true k h = let n = neither (same_predicate p q) (is_among (defined_of s) q) e in record { initial = k; other = n.0; undefined = n.1 }
    by false e false k h = absurd (cc)

each_may : (s : State) (p : Pred) (ts : List (Tree ℕ)) → body_broken s p ts ≡ None → (t : Tree ℕ) → Among t ts → AtomMay s p (predicate_of t)
each_may s p [] h t a = elim a [ ]
each_may s p (u ∷ ts) h t a =
    let k = first_of (atom_broken s p (predicate_of u)) (body_broken s p ts) h in
    among_cases a
    (λ q. subst (λ x. AtomMay s p (predicate_of x)) (sym q) (atom_may s p (predicate_of u) k.0))
    (λ m. each_may s p ts k.1 t m)

some_atom : (ts : List (Tree ℕ)) → no_body ts ≡ None → 0 < length ts
some_atom [] h = absurd (cc)
some_atom (t ∷ ts) h = omega arith

may_define : (s : State) (c : Clause) → definition_broken s c ≡ None → MayDefine s c
may_define s c h =
    let p = predicate_of c.head in
    let one = first_of (not_fresh s p) (or_next (head_broken c) (or_next (no_body c.body) (or_next (body_broken s p c.body) (loose_broken c)))) h in
    let two = first_of (head_broken c) (or_next (no_body c.body) (or_next (body_broken s p c.body) (loose_broken c))) one.1 in
    let three = first_of (no_body c.body) (or_next (body_broken s p c.body) (loose_broken c)) two.1 in
    let four = first_of (body_broken s p c.body) (loose_broken c) three.1 in
    let fresh = neither (is_among s.initials p) (is_among (defined_of s) p) (unless (is_among s.initials p || is_among (defined_of s) p) (NotFresh p) one.0) in
    let each = each_may s p c.body four.0 in
    record {
      not_initial = fresh.0;
      not_defined = fresh.1;
      has_atom = some_atom c.body three.0;
      each_initial = λ t m. (each t m).initial;
      not_own = λ t m. (each t m).other;
      each_undefined = λ t m. (each t m).undefined;
    }

-- ---- the one new entry
ok_is : {c d : Clause} → ◌≡◌ {A = Result Clause clauses.Refusal} (Ok c) (Ok d) → c ≡ d
ok_is {c} e = let out : Result Clause clauses.Refusal → Clause = elim [ Ok x ↦ x | Err r ↦ c ] in ap out e

one_made : (n : ℕ) (d : Draft) (es : List Entry) → AllMade n (d ∷ []) es → (x : Entry) × (es ≡ x ∷ []) × Makes n d x
one_made n d [] h = absurd h
one_made n d (x ∷ []) h = (x, refl, h.0)
one_made n d (x ∷ y ∷ es) h = absurd h.1

-- a definition that joins the state s
module _ (s t : State) (c : Clause) (canonical : IsCanonical c) (h : rewritten s (definition c) ≡ Ok t) where
  abbrev drafted : Draft
  drafted = record { clause = c; mark = false; parents = [] }

  abbrev number : ℕ
  number = length s.steps + 1

  -- its entry
  record Joins : Type 0 where
    entry : Entry
    clause : entry.clause ≡ c
    mark : entry.mark ≡ false
    live_now : entry.live ≡ true
    not_loaded : is_loaded entry ≡ false
    is : t ≡ replaced s [] (entry ∷ []) (Some (predicate_of c.head)) (definition c).step

  joins : Joins
  joins =
      let w = rewritten_is s t (definition c) h in
      let o = one_made number drafted w.0 w.1 in
      record {
        entry = o.0;
        clause = ok_is (sym o.2.clause ∙ canonical_is_new c canonical);
        mark = o.2.mark;
        live_now = o.2.live;
        not_loaded = ap (λ n. nat_eq n 0) o.2.made_at ∙ later_step (length s.steps);
        is = w.2 ∙ ap (λ es. replaced s [] es (Some (predicate_of c.head)) (definition c).step) o.1;
      }

  abbrev new : Marked
  new = unmarked c

  entry_is : marked joins.entry ≡ new
  entry_is = is_marked joins.entry c false joins.clause joins.mark

  -- ---- the state after it
  live_after : live_entries t ≡ live_entries s ++ joins.entry ∷ []
  live_after =
      ap (λ (u : State). live u.entries) joins.is
      ∙ (where_append is_live s.entries (map Some (joins.entry ∷ []))
      ∙ ap (λ es. live_entries s ++ es) (where_all is_live (joins.entry ∷ []) (λ e a. among_cases a (λ q. ap (λ (x : Entry). x.live) q ∙ joins.live_now) (λ b. elim b [ ]))))

  loaded_after : entries_where is_loaded t.entries ≡ entries_where is_loaded s.entries
  loaded_after =
      ap (λ (u : State). entries_where is_loaded u.entries) joins.is
      ∙ (where_append is_loaded s.entries (map Some (joins.entry ∷ []))
      ∙ (ap (λ es. entries_where is_loaded s.entries ++ es) (where_none is_loaded (joins.entry ∷ []) (λ e a. among_cases a (λ q. ap is_loaded q ∙ joins.not_loaded) (λ b. elim b [ ])))
      ∙ append-nil (entries_where is_loaded s.entries)))

  definitions_after : t.definitions ≡ s.definitions ++ c ∷ []
  definitions_after = ap (λ (u : State). u.definitions) joins.is ∙ ap (λ x. s.definitions ++ x ∷ []) joins.clause

  initials_after : t.initials ≡ s.initials
  initials_after = ap (λ (u : State). u.initials) joins.is

  defined_after : defined_of t ≡ defined_of s ++ predicate_of c.head ∷ []
  defined_after = ap (λ (ds : List Clause). map (λ d. predicate_of d.head) ds) definitions_after ∙ map-append (λ (d : Clause). predicate_of d.head) s.definitions (c ∷ [])

  live_clauses_after : live_clauses t ≡ live_clauses s ++ c ∷ []
  live_clauses_after =
      ap (map (λ (e : Entry). e.clause)) live_after
      ∙ (map-append (λ (e : Entry). e.clause) (live_entries s) (joins.entry ∷ [])
      ∙ ap (λ x. live_clauses s ++ x ∷ []) joins.clause)

  loaded_clauses_after : loaded_clauses t ≡ loaded_clauses s
  loaded_clauses_after = ap (map (λ (e : Entry). e.clause)) loaded_after

  marked_live_after : live_of t ≡ live_of s ++ new ∷ []
  marked_live_after =
      ap (map marked) live_after
      ∙ (map-append marked (live_entries s) (joins.entry ∷ [])
      ∙ ap (λ x. live_of s ++ x ∷ []) entry_is)

  marked_base_after : base_of t ≡ base_of s ++ new ∷ []
  marked_base_after =
      let loaded = map marked (entries_where is_loaded s.entries) in
      ap (λ es. map marked es ++ map unmarked t.definitions) loaded_after
      ∙ (ap (λ ds. loaded ++ map unmarked ds) definitions_after
      ∙ (ap (λ xs. loaded ++ xs) (map-append unmarked s.definitions (c ∷ []))
      ∙ sym (append_assoc loaded (map unmarked s.definitions) (new ∷ []))))

  pub define_grows : (written : Clause) → Stands (Some c) written → GrowsBy (written ∷ []) s t
  define_grows written stands = record {
    initials = initials_after;
    loaded = loaded_clauses_after;
    added = c ∷ [];
    definitions = definitions_after;
    base =
        ap (λ cs. cs ++ t.definitions) loaded_clauses_after
        ∙ (ap (λ ds. loaded_clauses s ++ ds) definitions_after
        ∙ sym (append_assoc (loaded_clauses s) s.definitions (c ∷ [])));
    stand = (stands, tt);
  }

  -- ---- the rank
  module _ (k : IsKeptState s) (held : IsHeld c) (may : MayDefine s c) where
    abbrev known : List Pred
    known = known_of s

    abbrev p : Pred
    p = predicate_of c.head

    fresh : is_among known p ≡ false
    fresh = none_known s.initials (defined_of s) p may.not_initial may.not_defined

    -- which predicates are defined now
    now_defined : (q : Pred) → is_among (defined_of t) q ≡ (is_among (defined_of s) q || (same_predicate p q || false))
    now_defined q = ap (λ ps. is_among ps q) defined_after ∙ list_any-append (λ r. same_predicate r q) (defined_of s) (p ∷ [])

    or_no : (a b : Bool) → b ≡ false → (a || (b || false)) ≡ a
    or_no true b h = refl
    or_no false b h = both_false b false h refl

    or_this : (a b : Bool) → b ≡ true → (a || (b || false)) ≡ true
    or_this true b h = refl
    or_this false true h = refl
    or_this false false h = absurd (cc)

    other_than : (q : Pred) → is_among known q ≡ true → same_predicate p q ≡ false
    other_than q h = by (same_predicate p q) refl
      where
        by : (b : Bool) → same_predicate p q ≡ b → b ≡ false
        by false e = refl
        by true e = let same = predicate_equality.sound p q e in let f = fresh in let g = ap (is_among known) same in absurd (cc)

    is_definition : IsDefinition known (defined_of s) (defined_of t) (base_of s) (live_of s) new
    is_definition = record {
      base_held = base_held s k;
      live_held = live_held s k;
      same = λ q h. now_defined q ∙ or_no (is_among (defined_of s) q) (same_predicate p q) (other_than q h);
      held = held;
      fresh = fresh;
      defined = now_defined p ∙ or_this (is_among (defined_of s) p) (same_predicate p p) (predicate_equality.reflexive p);
      initial = each_all (λ t'. is_among (defined_of t) (predicate_of t') ≡ false) c.body (λ u m.
          now_defined (predicate_of u) ∙ (or_no (is_among (defined_of s) (predicate_of u)) (same_predicate p (predicate_of u)) (may.not_own u m) ∙ may.each_undefined u m));
      unmarked = refl;
    }

    -- a clause more, whatever way this is told
    grown : (xs ys : List Marked) → ys ≡ xs ++ new ∷ [] → (x : Marked) → With (setting (defined_by s)) (Contains xs) new x → Contains ys x
    grown xs ys e x w = subst (λ zs. Contains zs x) (sym e) (elim w [
      | inl l ↦ from_among (among_front x xs (new ∷ []) (to_among xs x l))
      | inr q ↦ from_among (among_back x xs (new ∷ []) (subst (λ z. Among z (new ∷ [])) (sym q) first))
    ])

    grew : (xs ys : List Marked) → ys ≡ xs ++ new ∷ [] → (x : Marked) → Contains ys x → With (setting (defined_by s)) (Contains xs) new x
    grew xs ys e x l = elim (among_either x xs (new ∷ []) (to_among (xs ++ new ∷ []) x (subst (λ zs. Contains zs x) e l))) [
      | inl a ↦ inl (from_among a)
      | inr a ↦ inr (among_cases a (λ q. q) (λ b. elim b [ ]))
    ]

    ranked_after : RankedOver (defined_by t) (base_of t) (live_of t)
    ranked_after =
        let r = defining_keeps (setting (defined_by s)) (defined_by t) (Contains (base_of s)) (Contains (live_of s)) new (OfKnown known) (defines known (defined_of s) (defined_of t) (base_of s) (live_of s) new is_definition) k.ranked in
        rank_told (setting (defined_by t))
        (With (setting (defined_by s)) (Contains (base_of s)) new) (Contains (base_of t)) (With (setting (defined_by s)) (Contains (live_of s)) new) (Contains (live_of t))
        (grown (base_of s) (base_of t) marked_base_after) (grew (base_of s) (base_of t) marked_base_after)
        (grown (live_of s) (live_of t) marked_live_after) (grew (live_of s) (live_of t) marked_live_after) r

    -- ---- the state
    known_after : (q : Pred) → is_among known q ≡ true → is_among (known_of t) q ≡ true
    known_after q h = subst (λ ps. is_among ps q ≡ true) whole (front_known known (p ∷ []) q h)
      where
        whole : known ++ p ∷ [] ≡ known_of t
        whole = append_assoc s.initials (defined_of s) (p ∷ []) ∙ (ap (λ ps. s.initials ++ ps) (sym defined_after) ∙ ap (λ ps. ps ++ defined_of t) (sym initials_after))

    still_known : (d : Clause) → IsKnown known d → IsKnown (known_of t) d
    still_known d h = speaks_known (known_of t) d (λ u m. known_after (predicate_of u) (known_speaks known d h u m))

    new_known : IsKnown (known_of t) c
    new_known = record {
      head = back_known t.initials (defined_of t) p (now_defined p ∙ or_this (is_among (defined_of s) p) (same_predicate p p) (predicate_equality.reflexive p));
      atoms = each_all (λ u. is_among (known_of t) (predicate_of u) ≡ true) c.body (λ u m. known_after (predicate_of u) (front_known s.initials (defined_of s) (predicate_of u) (may.each_initial u m)));
    }

    -- of the clauses with c put last
    all_and : (P : Clause → Type 0) (xs ys : List Clause) → ys ≡ xs ++ c ∷ [] → ((d : Clause) → Among d xs → P d) → P c → All P ys
    all_and P xs ys e old one = subst (All P) (sym e) (each_all P (xs ++ c ∷ []) (λ d a. elim (among_either d xs (c ∷ []) a) [
      | inl b ↦ old d b
      | inr b ↦ among_cases b (λ q. subst P (sym q) one) (λ n. elim n [ ])
    ]))

    new_definition : IsKeptDefinition t.initials c
    new_definition = subst (λ ps. IsKeptDefinition ps c) (sym initials_after) (record {
      held = held;
      canonical = canonical;
      fresh = may.not_initial;
      has_atom = may.has_atom;
      of_initials = each_all (λ u. is_among s.initials (predicate_of u) ≡ true) c.body may.each_initial;
    })

    -- no old definition is of the predicate
    not_old : (m : Clause) → Among m s.definitions → predicate_of m.head ≡ p → ⊥
    not_old m a q =
        let there = there_is (defined_of s) (predicate_of m.head) (among_mapped (λ (d : Clause). predicate_of d.head) a) in
        let moved = ap (is_among (defined_of s)) q in
        let none = may.not_defined in
        cc

    old_or_new : (m : Clause) → Contains t.definitions m → Among m s.definitions ⊎ (m ≡ c)
    old_or_new m l = elim (among_either m s.definitions (c ∷ []) (to_among (s.definitions ++ c ∷ []) m (subst (λ ds. Contains ds m) definitions_after l))) [
      | inl a ↦ inl a
      | inr a ↦ inr (among_cases a (λ q. q) (λ b. elim b [ ]))
    ]

    one_each : (m n : Clause) → Contains t.definitions m → Contains t.definitions n → predicate_of m.head ≡ predicate_of n.head → m ≡ n
    one_each m n i j q = elim (old_or_new m i) [
      | inl a ↦ elim (old_or_new n j) [
        | inl b ↦ k.one_each m n (from_among a) (from_among b) q
        | inr e ↦ absurd (not_old m a (q ∙ ap (λ (x : Clause). predicate_of x.head) e))
      ]
      | inr d ↦ elim (old_or_new n j) [
        | inl b ↦ absurd (not_old n b (sym q ∙ ap (λ (x : Clause). predicate_of x.head) d))
        | inr e ↦ d ∙ sym e
      ]
    ]

    joined_state : IsKeptState t
    joined_state = record {
      ranked = ranked_after;
      held = all_and IsHeld (live_clauses s) (live_clauses t) live_clauses_after (all_each IsHeld (live_clauses s) k.held) held;
      canonical = all_and IsCanonical (live_clauses s) (live_clauses t) live_clauses_after (all_each IsCanonical (live_clauses s) k.canonical) canonical;
      known = all_and (IsKnown (known_of t)) (live_clauses s) (live_clauses t) live_clauses_after (λ d a. still_known d (all_each (IsKnown known) (live_clauses s) k.known d a)) new_known;
      loaded_held = subst (All IsHeld) (sym loaded_clauses_after) k.loaded_held;
      loaded_known = subst (λ ps. All (IsKnown ps) (loaded_clauses t)) (sym initials_after) (subst (All (IsKnown s.initials)) (sym loaded_clauses_after) k.loaded_known);
      definitions = all_and (IsKeptDefinition t.initials) s.definitions t.definitions definitions_after
          (λ d a. subst (λ ps. IsKeptDefinition ps d) (sym initials_after) (all_each (IsKeptDefinition s.initials) s.definitions k.definitions d a)) new_definition;
      one_each = one_each;
    }

pub define_keeps_state : (s t : State) (c : Clause) → IsCanonical c → IsHeld c → definition_broken s c ≡ None → rewritten s (definition c) ≡ Ok t → IsKeptState s → IsKeptState t
define_keeps_state s t c canonical held right h k = joined_state s t c canonical h k held (may_define s c right)

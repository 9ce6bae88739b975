-- An accepted fold keeps the state.
use Rattle.std.proofs.Common.{◌≡◌, ℕ, suc, ◌+◌, List, [], ◌∷◌, length, refl, sym, ◌∙◌, ap, subst, ◌⊎◌, inl, inr, Bool, true, false}
use Rattle.std.specs.Prelude.{Option, Some, None, Ok, option_map, if◌then◌else◌, All, Contains}
use Rattle.clp_model.specs.declared.predicate.Pred.{Pred}
use Rattle.clp_model.specs.declared.tree.Tree.{Tree}
use Rattle.clp_model.specs.Trees.{IsApplication}
use Rattle.clp_model.specs.Clauses.{Clause, Row}
use Rattle.clp_model.specs.Predicates.{predicate_of, same_predicate}
use Rattle.clp_model.proofs.Membership.{Among, first, next}
use Rattle.clp_rank.specs.Entries.{Entry as Marked, setting}
use Rattle.clp_rank.proofs.Folding.{folding_keeps}
use Rattle.linear_model.specs.Forms.{IsRising}
use Rattle.linear_model.specs.Normal.{normal}
use Rattle.linear_model.specs.Certificates.{Entails}
use Rattle.unify_model.specs.Substituting.{substituted, Binding}
use Rattle.unify_laws.proofs.Substituted.{came_from}
use Rattle.unify_laws.proofs.Solved.{among_cases}
use Rattle.clause_model.specs.Canonical.{new_clause, canonical_form, HasRisingRows, IsCanonical}
use Rattle.clause_laws.proofs.Rows.{all_each, each_all}
use Rattle.fold_model.specs.Positions.{first_outside, first_repeated, is_in, others_from, replaced_from, chosen}
use Rattle.fold_model.specs.Images.{matched_atoms, bad_with, all_bindings, image_in}
use Rattle.fold_model.specs.Internal.{lost_variable}
use Rattle.fold_model.specs.Folded.{questions, folded_clause}
use Rattle.fold_laws.specs.Laws.{IsAccepted}
use Rattle.fold_laws.proofs.Places.{chosen_old}
use Rattle.fold_laws.proofs.Bound.{image_variables}
use Rattle.fold_laws.proofs.Accepted.{is_folded}
use Rattle.rule_laws.specs.Steps.{IsHeld}
use Rattle.rule_laws.specs.Folding.{IsFolding}
use Rattle.rule_laws.specs.Dropping.{IsKnown}
use Rattle.rule_laws.proofs.Folding.{folds}
use Rattle.map_model.specs.declared.refusal.Refusal.{Refusal}
use Rattle.map_model.specs.declared.refusal.Refusal.TheVariants.{NoAtom, RepeatedPosition, Unmarked, BadWith, LostVariable}
use Rattle.map_model.specs.State.{Entry, State, live_entries, defined_of, definition_among, definition_of, is_among}
use Rattle.map_model.specs.Rewriting.{Draft, or_next}
use Rattle.map_model.specs.Folding.{unmarked as unmarked_broken, atoms_broken, with_broken, rows_broken, images, lost_broken, many_rows, images_broken}
use Rattle.fill_laws.specs.Accepted.{in_its_place}
use Rattle.state_laws.specs.KeptState.{marked, unmarked, live_of, base_of, defined_by, known_of, IsKeptState}
use Rattle.state_laws.proofs.Variables.{tree_of}
use Rattle.state_laws.proofs.Sound.{TreeFits, Fits, held_of, held_fits}
use Rattle.state_laws.proofs.Predicates.{back_known}
use Rattle.state_laws.proofs.Known.{applies_substituted, predicate_substituted, Speaks, new_is_known}
use Rattle.state_laws.proofs.Held.{new_is_held}
use Rattle.state_laws.proofs.Base.{definition_kept, definition_defined, base_held, definition_in_base, only_definition, definition_initial}
use Rattle.state_laws.proofs.Live.{goes_from}
use Rattle.state_laws.proofs.Made.{Makes, entry_for}
use Rattle.state_laws.proofs.Rewritten.{Rewrites, is_marked, drafted_by, now_live, was, kept, old, state_after, entry_held, entry_canonical, entry_known}

-- ---- what stands in the place of others
others_old : {A : Type 0} (n : ℕ) (ps : List ℕ) (xs : List A) (y : A) → Among y (others_from n ps xs) → Among y xs
others_old n ps [] y a = elim a [ ]
others_old {A} n ps (x ∷ xs) y a = by (is_in ps n) (others_old (suc n) ps xs y) a
  where
    by : (b : Bool) → (Among y (others_from (suc n) ps xs) → Among y xs) → Among y (if b then others_from (suc n) ps xs else x ∷ others_from (suc n) ps xs) → Among y (x ∷ xs)
    by true again m = next (again m)
    by false again m = among_cases m (λ q. subst (λ z. Among z (x ∷ xs)) (sym q) first) (λ k. next (again k))

replaced_old : {A : Type 0} (d : A) (n : ℕ) (ps : List ℕ) (xs : List A) (y : A) → Among y (replaced_from d n ps xs) → (y ≡ d) ⊎ Among y xs
replaced_old d n ps [] y a = elim a [ ]
replaced_old {A} d n ps (x ∷ xs) y a = by (is_in ps n) (replaced_old d (suc n) ps xs y) a
  where
    by : (b : Bool) → (Among y (replaced_from d (suc n) ps xs) → (y ≡ d) ⊎ Among y xs) → Among y (if b then d ∷ others_from (suc n) ps xs else x ∷ replaced_from d (suc n) ps xs) → (y ≡ d) ⊎ Among y (x ∷ xs)
    by true again m = among_cases m (λ q. inl q) (λ k. inr (next (others_old (suc n) ps xs y k)))
    by false again m = among_cases m (λ q. inr (subst (λ z. Among z (x ∷ xs)) (sym q) first)) (λ k. elim (again k) [ inl q ↦ inl q | inr r ↦ inr (next r) ])

-- ---- the conditions
first_of : (a b : Option Refusal) → or_next a b ≡ None → (a ≡ None) × (b ≡ None)
first_of None b h = (refl, h)
first_of (Some r) b h = absurd (cc)

unless : (b : Bool) (r : Refusal) → (if b then None else Some r) ≡ None → b ≡ true
unless true r h = refl
unless false r h = absurd (cc)

no_such : {A : Type 0} (f : A → Refusal) (o : Option A) → option_map f o ≡ None → o ≡ None
no_such f None h = refl
no_such f (Some x) h = absurd (cc)

pub is_marked_entry : (id : ℕ) (e : Entry) → unmarked_broken id e ≡ None → e.mark ≡ true
is_marked_entry id e h = unless e.mark (Unmarked id) h

pub is_accepted : (n c : Clause) (at with keep : List ℕ) (bs : List Binding) → atoms_broken c at ≡ None → matched_atoms n c at ≡ Some bs → images_broken n c at with keep bs ≡ None
    → All (λ q. Entails q.rows (normal q.target)) (questions n c (images n c with bs) keep) → IsAccepted n c at with keep bs
is_accepted n c at with keep bs a m i shown =
    let places = first_of (option_map NoAtom (first_outside (length c.body) at)) (option_map RepeatedPosition (first_repeated at)) a in
    let one = first_of (with_broken n c with) (or_next (rows_broken c keep) (or_next (lost_broken n c (images n c with bs) at keep) (many_rows n keep))) i in
    let two = first_of (rows_broken c keep) (or_next (lost_broken n c (images n c with bs) at keep) (many_rows n keep)) one.1 in
    let three = first_of (lost_broken n c (images n c with bs) at keep) (many_rows n keep) two.1 in
    record {
      within = no_such NoAtom (first_outside (length c.body) at) places.0;
      once = no_such RepeatedPosition (first_repeated at) places.1;
      matches = m;
      named = no_such BadWith (bad_with n c with) one.0;
      apart = no_such LostVariable (lost_variable n c (images n c with bs) at keep) three.0;
      shown = shown;
    }

found_definition : (ds : List Clause) (p : Pred) (n : Clause) → definition_among ds p ≡ Some n → Among n ds
found_definition [] p n h = absurd (cc)
found_definition (d ∷ ds) p n h = by (same_predicate (predicate_of d.head) p) (found_definition ds p n) h
  where
    clause_is : {c d : Clause} → ◌≡◌ {A = Option Clause} (Some c) (Some d) → c ≡ d
    clause_is {c} e = let out : Option Clause → Clause = elim [ Some x ↦ x | None ↦ c ] in ap out e

    by : (b : Bool) → (definition_among ds p ≡ Some n → Among n ds) → (if b then Some d else definition_among ds p) ≡ Some n → Among n (d ∷ ds)
    by true again q = subst (λ x. Among x (d ∷ ds)) (clause_is q) first
    by false again q = next (again q)

-- ---- the folded clause
module _ (n c : Clause) (at with keep : List ℕ) (bs : List Binding) (hn : IsHeld n) (hc : IsHeld c) (h : IsAccepted n c at with keep bs) where
  abbrev f : ℕ → Tree ℕ
  f = image_in n (all_bindings n c with bs)

  abbrev atom : Tree ℕ
  atom = substituted f n.head

  abbrev folded : Clause
  folded = folded_clause n c f at keep

  of_n : Fits n
  of_n = held_fits n hn

  of_c : Fits c
  of_c = held_fits c hc

  atom_fits : TreeFits (length c.sorts) atom
  atom_fits y a =
      let w = came_from f y n.head a in
      let p = of_n.trees n.head first w.0 w.1 in
      elim (image_variables n c at with bs h.matches h.named w.0 p.0 p.1 y w.2) [
        | inl k ↦ let t = tree_of (c.head ∷ c.body) y k in of_c.trees t.0 t.1 y t.2
        | inr k ↦ k
      ]

  tree_from : (P : Tree ℕ → Type 0) → P atom → ((t : Tree ℕ) → Among t (c.head ∷ c.body) → P t) → (u : Tree ℕ) → Among u (folded.head ∷ folded.body) → P u
  tree_from P new each u a = among_cases a
      (λ q. subst P (sym q) (each c.head first))
      (λ m. elim (replaced_old atom 1 at c.body u m) [ inl q ↦ subst P (sym q) new | inr k ↦ each u (next k) ])

  folded_is_held : IsHeld folded
  folded_is_held = held_of folded refl (record {
    applies = tree_from IsApplication (applies_substituted f n.head (of_n.applies n.head first)) of_c.applies;
    trees = tree_from (TreeFits (length c.sorts)) atom_fits of_c.trees;
    rows = λ r a. let k = of_c.rows r (chosen_old 1 keep c.rows r a) in record { placed = k.placed; num = k.num };
  })

  folded_rises : HasRisingRows c → HasRisingRows folded
  folded_rises rising = each_all (λ r. IsRising r.pairs) (chosen keep c.rows) (λ r a. all_each (λ (r : Row). IsRising r.pairs) c.rows rising r (chosen_old 1 keep c.rows r a))

  folded_speaks : (known : List Pred) → is_among known (predicate_of n.head) ≡ true → Speaks known c → Speaks known folded
  folded_speaks known d speaks = tree_from (λ t. is_among known (predicate_of t) ≡ true)
      (ap (is_among known) (predicate_substituted f n.head (of_n.applies n.head first)) ∙ d) speaks

-- ---- the state
module _ (s t : State) (id : ℕ) (at with keep : List ℕ) (bs : List Binding) (p : Pred) (e : Entry) (n : Clause) (rewrites : Rewrites s t id e (in_its_place id e (folded_clause n e.clause (images n e.clause with bs) at keep)))
    (mark : e.mark ≡ true) (found : definition_of s p ≡ Some n) (h : IsAccepted n e.clause at with keep bs) (k : IsKeptState s) where
  abbrev d : Clause
  d = folded_clause n e.clause (images n e.clause with bs) at keep

  abbrev drafts : List Draft
  drafts = in_its_place id e d

  abbrev draft : Draft
  draft = record { clause = d; mark = e.mark; parents = id ∷ [] }

  abbrev new : Marked
  new = record { clause = canonical_form d; mark = true }

  here : Among e (live_entries s)
  here = goes_from e s.entries _ rewrites.here rewrites.is_live

  there : Among n s.definitions
  there = found_definition s.definitions p n found

  n_held : IsHeld n
  n_held = (definition_kept s k n there).held

  e_held : IsHeld e.clause
  e_held = entry_held s k e here

  d_held : IsHeld d
  d_held = folded_is_held n e.clause at with keep bs n_held e_held h

  d_rises : HasRisingRows d
  d_rises = folded_rises n e.clause at with keep bs n_held e_held h (entry_canonical s k e here).rising

  d_speaks : Speaks (known_of s) d
  d_speaks = folded_speaks n e.clause at with keep bs n_held e_held h (known_of s)
      (back_known s.initials (defined_of s) (predicate_of n.head) (definition_defined s k n there)) (entry_known s k e here)

  -- each new entry is that of the folded clause
  new_is : (x : Draft) (y : Entry) (m : ℕ) → Among x drafts → Makes m x y → (marked y ≡ new) × IsHeld y.clause × IsCanonical y.clause × IsKnown (known_of s) y.clause
  new_is x y m a made = among_cases a
      (λ q.
      let c : new_clause d ≡ Ok y.clause = ap (λ (z : Draft). new_clause z.clause) (sym q) ∙ made.clause in
      let i = new_is_held d y.clause d_held d_rises c in
      (is_marked y (canonical_form d) true i.0 (made.mark ∙ (ap (λ (z : Draft). z.mark) q ∙ mark)), i.1, i.2, new_is_known (known_of s) d y.clause i.0 d_speaks))
      (λ b. elim b [ ])

  made_now : Contains (live_of t) new
  made_now =
      let v = entry_for (length s.steps + 1) drafts rewrites.entries rewrites.made draft first in
      subst (λ y. Contains (live_of t) y) (new_is draft v.0 (length s.steps + 1) first v.2).0 (now_live s t id e drafts rewrites v.0 v.1)

  is_folding : IsFolding (defined_of s) (base_of s) (live_of s) (live_of t) (marked e) (unmarked n) d (images n e.clause with bs)
  is_folding = record {
    was = was s t id e drafts rewrites;
    marked = mark;
    held = e_held;
    definition = n_held;
    in_base = definition_in_base s k n there;
    base_held = λ x l. (base_held s k x l).0;
    only = only_definition s k n there;
    defined = definition_defined s k n there;
    initial = definition_initial s k n there;
    folds = is_folded n e.clause at with keep bs n_held (definition_kept s k n there).has_atom h;
    now = made_now;
    kept = kept s t id e drafts rewrites;
    old = λ r l. elim (old s t id e drafts rewrites r l) [
      | inl a ↦ inr a
      | inr m ↦ let x = drafted_by s t id e drafts rewrites m.0 m.1 in inl (m.2 ∙ (new_is x.0 m.0 (length s.steps + 1) x.1 x.2).0)
    ];
  }

  pub fold_keeps_state : IsKeptState t
  fold_keeps_state = state_after s t id e drafts rewrites k
      (folding_keeps (setting (defined_by s)) (Contains (base_of s)) (Contains (live_of s)) (Contains (live_of t)) (marked e) new (unmarked n)
      (folds (defined_of s) (base_of s) (live_of s) (live_of t) (marked e) (unmarked n) d (images n e.clause with bs) is_folding) k.ranked)
      (λ y a. let x = drafted_by s t id e drafts rewrites y a in let i = new_is x.0 y (length s.steps + 1) x.1 x.2 in (i.1, i.2, i.3))

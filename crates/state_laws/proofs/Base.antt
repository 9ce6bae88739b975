-- What is in the base and among the live clauses of a kept state.
use Rattle.std.proofs.Common.{◌≡◌, List, map, refl, sym, ap, subst, inl, inr, Bool, true, false}
use Rattle.std.specs.Prelude.{Contains, All}
use Rattle.clp_model.specs.declared.predicate.Pred.{Pred}
use Rattle.clp_model.specs.Clauses.{Clause}
use Rattle.clp_model.specs.Predicates.{predicate_of}
use Rattle.clp_model.proofs.Membership.{Among, among_back, among_either, among_mapped, to_among, from_among}
use Rattle.clp_rank.specs.Entries.{Entry as Marked}
use Rattle.clause_laws.proofs.Rows.{all_each, each_all}
use Rattle.rule_laws.specs.Steps.{IsHeld}
use Rattle.rule_laws.specs.Dropping.{IsKnown}
use Rattle.map_model.specs.State.{Entry, State, entries_where, is_loaded, live_entries, live_clauses, defined_of, is_among}
use Rattle.state_laws.specs.KeptState.{marked, unmarked, live_of, base_of, loaded_clauses, known_of, IsKeptDefinition, IsKeptState}
use Rattle.state_laws.proofs.Variables.{among_map}
use Rattle.state_laws.proofs.Predicates.{is_there, there_is, front_known, back_known}
use Rattle.state_laws.proofs.Known.{speaks_known, known_speaks}

module _ (s : State) (k : IsKeptState s) where
  abbrev known : List Pred
  known = known_of s

  pub definition_kept : (d : Clause) → Among d s.definitions → IsKeptDefinition s.initials d
  definition_kept d a = all_each (IsKeptDefinition s.initials) s.definitions k.definitions d a

  -- the predicate of a kept definition is defined
  pub definition_defined : (d : Clause) → Among d s.definitions → is_among (defined_of s) (predicate_of d.head) ≡ true
  definition_defined d a = there_is (defined_of s) (predicate_of d.head) (among_mapped (λ (d : Clause). predicate_of d.head) a)

  -- no initial predicate is defined
  pub initial_undefined : (p : Pred) → is_among s.initials p ≡ true → is_among (defined_of s) p ≡ false
  initial_undefined p h = by (is_among (defined_of s) p) refl
    where
      by : (b : Bool) → is_among (defined_of s) p ≡ b → b ≡ false
      by false e = refl
      by true e =
          let w = among_map (λ (d : Clause). predicate_of d.head) s.definitions p (is_there (defined_of s) p e) in
          let fresh = (definition_kept w.0 w.1).fresh in
          let same = ap (is_among s.initials) w.2 in
          absurd (cc)

  pub loaded_both : (c : Clause) → Among c (loaded_clauses s) → IsHeld c × IsKnown s.initials c
  loaded_both c a = (all_each IsHeld (loaded_clauses s) k.loaded_held c a, all_each (IsKnown s.initials) (loaded_clauses s) k.loaded_known c a)

  widened : (d : Clause) → IsKnown s.initials d → IsKnown known d
  widened d h = speaks_known known d (λ t m. front_known s.initials (defined_of s) (predicate_of t) (known_speaks s.initials d h t m))

  definition_known : (d : Clause) → Among d s.definitions → IsHeld d × IsKnown known d
  definition_known d a =
      let n = definition_kept d a in (
        n.held,
        record {
          head = back_known s.initials (defined_of s) (predicate_of d.head) (definition_defined d a);
          atoms = each_all (λ t. is_among known (predicate_of t) ≡ true) d.body (λ t m.
              front_known s.initials (defined_of s) (predicate_of t) (all_each (λ t. is_among s.initials (predicate_of t) ≡ true) d.body n.of_initials t m));
        },
      )

  abbrev loaded : List Entry
  loaded = entries_where is_loaded s.entries

  -- a clause of the base is loaded, or a definition
  base_from : (P : Marked → Type 0) → ((e : Entry) → Among e.clause (loaded_clauses s) → P (marked e)) → ((d : Clause) → Among d s.definitions → P (unmarked d)) → (x : Marked) → Contains (base_of s) x → P x
  base_from P of_loaded of_definition x l = elim (among_either x (map marked loaded) (map unmarked s.definitions) (to_among (base_of s) x l)) [
    | inl b ↦ let w = among_map marked loaded x b in subst P (sym w.2) (of_loaded w.0 (among_mapped (λ (e : Entry). e.clause) w.1))
    | inr b ↦ let w = among_map unmarked s.definitions x b in subst P (sym w.2) (of_definition w.0 w.1)
  ]

  pub base_held : (x : Marked) → Contains (base_of s) x → IsHeld x.clause × IsKnown known x.clause
  base_held = base_from (λ x. IsHeld x.clause × IsKnown known x.clause) (λ e a. let h = loaded_both e.clause a in (h.0, widened e.clause h.1)) definition_known

  pub live_held : (x : Marked) → Contains (live_of s) x → IsHeld x.clause × IsKnown known x.clause
  live_held x l =
      let w = among_map marked (live_entries s) x (to_among (live_of s) x l) in
      let there : Among w.0.clause (live_clauses s) = among_mapped (λ (e : Entry). e.clause) w.1 in
      subst (λ (y : Marked). IsHeld y.clause × IsKnown known y.clause) (sym w.2)
      (all_each IsHeld (live_clauses s) k.held w.0.clause there, all_each (IsKnown known) (live_clauses s) k.known w.0.clause there)

  -- ---- a definition
  module _ (n : Clause) (a : Among n s.definitions) where
    pub definition_in_base : Contains (base_of s) (unmarked n)
    definition_in_base = from_among (among_back (unmarked n) (map marked loaded) (map unmarked s.definitions) (among_mapped unmarked a))

    -- no other clause of the base is of its predicate
    pub only_definition : (x : Marked) → Contains (base_of s) x → predicate_of x.clause.head ≡ predicate_of n.head → x ≡ unmarked n
    only_definition = base_from (λ x. predicate_of x.clause.head ≡ predicate_of n.head → x ≡ unmarked n)
        (λ e l q.
        let initial = (loaded_both e.clause l).1.head in
        let fresh = (definition_kept n a).fresh in
        let same = ap (is_among s.initials) q in
        absurd (cc))
        (λ d b q. ap unmarked (k.one_each d n (from_among b) (from_among a) q))

    pub definition_initial : All (λ t. is_among (defined_of s) (predicate_of t) ≡ false) n.body
    definition_initial = each_all (λ t. is_among (defined_of s) (predicate_of t) ≡ false) n.body (λ t m.
        initial_undefined (predicate_of t) (all_each (λ t. is_among s.initials (predicate_of t) ≡ true) n.body (definition_kept n a).of_initials t m))

-- Lists of predicates.
use Rattle.std.proofs.Common.{◌≡◌, ℕ, List, [], ◌∷◌, ◌++◌, Bool, true, false, ◌&&◌, refl, sym, ◌∙◌, ap, subst, eq-eqb, ◌⊎◌, inl, inr}
use Rattle.std.specs.Prelude.{nat_eq, ◌||◌}
use Rattle.std.specs.Str.{bytes_eq}
use Rattle.std.proofs.lemmas.Bool.{eqb-true}
use Rattle.std.proofs.lemmas.List.Folds.{list_any-append}
use Rattle.std.proofs.lemmas.Slice.Eq.{bytes_eq-Decides}
use Rattle.clp_model.specs.declared.predicate.Pred.{Pred}
use Rattle.clp_model.specs.Clauses.{Clause}
use Rattle.clp_model.specs.Predicates.{clause_predicates, program_predicates, initial_predicates, same_predicate, with_element, distinct_after}
use Rattle.clp_model.proofs.Membership.{Among, among_front, among_back, among_last}
use Rattle.unify_laws.proofs.Solved.{among_cases}
use Rattle.clause_laws.proofs.Distinct.{IsEquality, found_among, among_found, with_old, with_new, among_or_not}
use Rattle.map_model.specs.State.{is_among}

both : (a b : Bool) → (a && b) ≡ true → (a ≡ true) × (b ≡ true)
both true b h = (refl, h)
both false b h = absurd (cc)

two_true : (a b : Bool) → a ≡ true → b ≡ true → (a && b) ≡ true
two_true true b h k = k
two_true false b h k = absurd (cc)

neither : (a b : Bool) → (a || b) ≡ false → (a ≡ false) × (b ≡ false)
neither false b h = (refl, h)
neither true b h = absurd (cc)

either_first : (a b : Bool) → a ≡ true → (a || b) ≡ true
either_first true b h = refl
either_first false b h = absurd (cc)

either_second : (a b : Bool) → b ≡ true → (a || b) ≡ true
either_second true b h = refl
either_second false b h = h

both_false : (a b : Bool) → a ≡ false → b ≡ false → (a || b) ≡ false
both_false false b h k = k
both_false true b h k = absurd (cc)

abbrev named : List ℕ → ℕ → Pred
named name arity = record { name = name; arity = arity }

pub predicate_equality : IsEquality same_predicate
predicate_equality = record {
  sound = λ p q h.
      let k = both (bytes_eq p.name q.name) (nat_eq p.arity q.arity) h in
      ap (λ n. named n p.arity) ((bytes_eq-Decides p.name q.name).0 k.0) ∙ ap (named q.name) (eqb-true p.arity q.arity k.1);
  reflexive = λ p. two_true (bytes_eq p.name p.name) (nat_eq p.arity p.arity) ((bytes_eq-Decides p.name p.name).1 refl) (eq-eqb p.arity p.arity refl);
}

-- ---- what is among predicates
pub is_there : (ps : List Pred) (p : Pred) → is_among ps p ≡ true → Among p ps
is_there ps p h = found_among same_predicate predicate_equality p ps h

pub there_is : (ps : List Pred) (p : Pred) → Among p ps → is_among ps p ≡ true
there_is ps p a = among_found same_predicate predicate_equality p ps a

pub front_known : (ps qs : List Pred) (p : Pred) → is_among ps p ≡ true → is_among (ps ++ qs) p ≡ true
front_known ps qs p h = list_any-append (λ q. same_predicate q p) ps qs ∙ either_first (is_among ps p) (is_among qs p) h

pub back_known : (ps qs : List Pred) (p : Pred) → is_among qs p ≡ true → is_among (ps ++ qs) p ≡ true
back_known ps qs p h = list_any-append (λ q. same_predicate q p) ps qs ∙ either_second (is_among ps p) (is_among qs p) h

pub none_known : (ps qs : List Pred) (p : Pred) → is_among ps p ≡ false → is_among qs p ≡ false → is_among (ps ++ qs) p ≡ false
none_known ps qs p h k = list_any-append (λ q. same_predicate q p) ps qs ∙ both_false (is_among ps p) (is_among qs p) h k

-- ---- the predicates of a program
distinct_has : (found ps : List Pred) (p : Pred) → Among p found ⊎ Among p ps → Among p (distinct_after same_predicate found ps)
distinct_has found [] p a = elim a [ inl k ↦ k | inr k ↦ elim k [ ] ]
distinct_has found (q ∷ ps) p a = distinct_has (with_element same_predicate found q) ps p (elim a [
  | inl k ↦ inl (kept k)
  | inr k ↦ among_cases k (λ e. inl (subst (λ z. Among z (with_element same_predicate found q)) (sym e) put)) (λ m. inr m)
])
  where
    is_or_not : Among q found ⊎ ¬ Among q found
    is_or_not = among_or_not same_predicate predicate_equality q found

    kept : Among p found → Among p (with_element same_predicate found q)
    kept k = elim is_or_not [
      | inl i ↦ subst (Among p) (sym (with_old same_predicate predicate_equality found q i)) k
      | inr i ↦ subst (Among p) (sym (with_new same_predicate predicate_equality found q i)) (among_front p found (q ∷ []) k)
    ]

    put : Among q (with_element same_predicate found q)
    put = elim is_or_not [
      | inl i ↦ subst (Among q) (sym (with_old same_predicate predicate_equality found q i)) i
      | inr i ↦ subst (Among q) (sym (with_new same_predicate predicate_equality found q i)) (among_last q found)
    ]

pub initial_has : (source : List Clause) (p : Pred) → Among p (program_predicates source) → is_among (initial_predicates source) p ≡ true
initial_has source p a = there_is (initial_predicates source) p (distinct_has [] (program_predicates source) p (inr a))

pub of_clause : (source : List Clause) (c : Clause) (p : Pred) → Among c source → Among p (clause_predicates c) → Among p (program_predicates source)
of_clause [] c p a k = elim a [ ]
of_clause (x ∷ source) c p a k = among_cases a
    (λ e. among_front p (clause_predicates x) (program_predicates source) (subst (λ y. Among p (clause_predicates y)) e k))
    (λ m. among_back p (clause_predicates x) (program_predicates source) (of_clause source c p m k))

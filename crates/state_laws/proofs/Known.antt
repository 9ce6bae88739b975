-- The predicates of what loading and the rules make are those of what it is made of.
use Rattle.std.proofs.Common.{◌≡◌, ℕ, suc, List, ◌∷◌, ◌++◌, take, drop, length, Bool, true, false, refl, sym, ◌∙◌, ap, subst, inl, inr}
use Rattle.std.specs.Prelude.{Option, Some, None, Result, Ok, Err, if◌then◌else◌}
use Rattle.clp_model.specs.declared.limit.Limit.TheVariants.{Shape}
use Rattle.clp_model.specs.declared.predicate.Pred.{Pred}
use Rattle.clp_model.specs.declared.tree.Tree.{Tree, Var, App', Row_of-Tree, end_of-Tree, more_of-Tree, items-the_row-Tree}
use Rattle.clp_model.specs.Trees.{mapped, mapped_row, mapped_all, IsApplication, name_of, arguments_of}
use Rattle.clp_model.specs.Clauses.{Clause}
use Rattle.clp_model.specs.Canonical.{place_in}
use Rattle.clp_model.specs.Predicates.{predicate_of, clause_predicates}
use Rattle.clp_model.proofs.Membership.{Among, first, next, among_either, among_mapped}
use Rattle.clp_model.proofs.RenamedTrees.{application_mapped}
use Rattle.clp_meaning.specs.Laws.{without_atom}
use Rattle.linear_laws.proofs.Lists.{mapped_out}
use Rattle.unify_model.specs.Substituting.{substituted, substituted_row, image, Binding}
use Rattle.unify_model.specs.Unifying.{most_general_unifier}
use Rattle.unify_laws.proofs.Solved.{among_cases}
use Rattle.clause_model.specs.Variables.{variables_by_first_occurrence}
use Rattle.clause_model.specs.Canonical.{Refusal, TooLarge, with_clean_rows, canonical_form, new_clause}
use Rattle.clause_model.specs.Solved.{typed_variable, typed_equations, number_of, carried, solved_by, solved_clause}
use Rattle.clause_model.specs.Load.{load_one, loaded_solved, made_of, any_side_large}
use Rattle.clause_laws.proofs.Rows.{all_each, each_all}
use Rattle.clause_laws.proofs.Solving.{clause_of}
use Rattle.clause_laws.proofs.Loading.{solved_shape}
use Rattle.clause_laws.proofs.NewClause.{new_clause_is_canonical}
use Rattle.replace_model.specs.Rows.{replacing, equated}
use Rattle.unfold_model.specs.Resolvent.{past, joined_clause, resolvent}
use Rattle.rule_laws.specs.Steps.{IsHeld}
use Rattle.rule_laws.specs.Dropping.{IsKnown}
use Rattle.map_model.specs.State.{is_among}
use Rattle.map_model.specs.WellFormed.{IsWellFormed}
use Rattle.state_laws.proofs.Variables.{among_take, among_drop, among_remove, among_mapped_all}

-- ---- trees with other variables, or with trees in the place of variables
abbrev of_arity : List ℕ → ℕ → Pred
of_arity name n = record { name = name; arity = n }

module _ {V W : Type 0} (f : V → W) where
  lengths_mapped : {m : _} (ts : Row_of-Tree V m) → length (items-the_row-Tree W m (mapped_row f ts)) ≡ length (items-the_row-Tree V m ts)
  unfolding mapped
  lengths_mapped end_of-Tree = refl
  lengths_mapped (more_of-Tree t ts) = ap suc (lengths_mapped ts)

  pub predicate_mapped : (t : Tree V) → predicate_of (mapped f t) ≡ predicate_of t
  unfolding mapped name_of arguments_of
  predicate_mapped (Var v) = refl
  predicate_mapped (App' name shape args) = ap (of_arity name) (lengths_mapped args)

module _ {V W : Type 0} (f : V → Tree W) where
  lengths_substituted : {m : _} (ts : Row_of-Tree V m) → length (items-the_row-Tree W m (substituted_row f ts)) ≡ length (items-the_row-Tree V m ts)
  unfolding substituted
  lengths_substituted end_of-Tree = refl
  lengths_substituted (more_of-Tree t ts) = ap suc (lengths_substituted ts)

  pub applies_substituted : (t : Tree V) → IsApplication t → IsApplication (substituted f t)
  unfolding IsApplication substituted
  applies_substituted (Var v) h = absurd h
  applies_substituted (App' name shape args) h = tt

  pub predicate_substituted : (t : Tree V) → IsApplication t → predicate_of (substituted f t) ≡ predicate_of t
  unfolding IsApplication substituted name_of arguments_of
  predicate_substituted (Var v) h = absurd h
  predicate_substituted (App' name shape args) h = ap (of_arity name) (lengths_substituted args)

-- ---- clauses
-- the head and the atoms of the clause have predicates of the list
abbrev pub Speaks : List Pred → Clause → Type 0
Speaks known c = (t : Tree ℕ) → Among t (c.head ∷ c.body) → is_among known (predicate_of t) ≡ true

pub speaks_known : (known : List Pred) (c : Clause) → Speaks known c → IsKnown known c
speaks_known known c h = record { head = h c.head first; atoms = each_all (λ t. is_among known (predicate_of t) ≡ true) c.body (λ t m. h t (next m)) }

pub known_speaks : (known : List Pred) (c : Clause) → IsKnown known c → Speaks known c
known_speaks known c k t m = among_cases m
    (λ q. ap (λ x. is_among known (predicate_of x)) q ∙ k.head)
    (λ n. all_each (λ x. is_among known (predicate_of x) ≡ true) c.body k.atoms t n)

-- a clause speaks of its own predicates
pub own_predicates : (known : List Pred) (c : Clause) → ((p : Pred) → Among p (clause_predicates c) → is_among known p ≡ true) → Speaks known c
own_predicates known c h t m = among_cases m
    (λ q. subst (λ x. is_among known (predicate_of x) ≡ true) (sym q) (h (predicate_of c.head) first))
    (λ n. h (predicate_of t) (next (among_mapped predicate_of n)))

module _ (known : List Pred) where
  abbrev IsOf : Tree ℕ → Type 0
  IsOf t = is_among known (predicate_of t) ≡ true

  mapped_is_of : (f : ℕ → ℕ) (t : Tree ℕ) → IsOf t → IsOf (mapped f t)
  mapped_is_of f t h = ap (is_among known) (predicate_mapped f t) ∙ h

  -- the clause with its variables renumbered
  renumbered : (f : ℕ → ℕ) (c d : Clause) → d.head ≡ mapped f c.head → d.body ≡ mapped_all f c.body → Speaks known c → Speaks known d
  renumbered f c d p q h t m = among_cases m
      (λ e. subst IsOf (sym (e ∙ p)) (mapped_is_of f c.head (h c.head first)))
      (λ n. let k = among_mapped_all f c.body t (subst (Among t) q n) in subst IsOf (sym k.2) (mapped_is_of f k.0 (h k.0 (next k.1))))

  pub form_speaks : (c : Clause) → Speaks known c → Speaks known (canonical_form c)
  unfolding canonical_form
  form_speaks c h = renumbered (place_in (variables_by_first_occurrence (with_clean_rows c))) c (canonical_form c) refl refl h

  -- a new clause
  pub new_is_known : (c d : Clause) → d ≡ canonical_form c → Speaks known c → IsKnown known d
  new_is_known c d q h = subst (IsKnown known) (sym q) (speaks_known known (canonical_form c) (form_speaks c h))

  pub equated_speaks : (c : Clause) (v u : ℕ) → Speaks known c → Speaks known (equated c v u)
  equated_speaks c v u h = renumbered (replacing v u) c (equated c v u) refl refl h

  pub without_speaks : (c : Clause) (i : ℕ) → Speaks known c → Speaks known (without_atom c i)
  without_speaks c i h t m = among_cases m (λ q. h t (subst (λ x. Among x (c.head ∷ c.body)) (sym q) first)) (λ n. h t (next (among_remove c.body i t n)))

  -- ---- solving equations
  carried_is_of : (c : Clause) (bs : List Binding) (t : Tree ℕ) → IsApplication t → IsOf t → IsOf (carried c.sorts bs t)
  carried_is_of c bs t a h =
      let typed = mapped (typed_variable c.sorts) t in
      ap (is_among known)
      (predicate_mapped number_of (substituted (image bs) typed)
      ∙ (predicate_substituted (image bs) typed (application_mapped (typed_variable c.sorts) t a)
      ∙ predicate_mapped (typed_variable c.sorts) t))
      ∙ h

  pub solved_speaks : (c d : Clause) → ((t : Tree ℕ) → Among t (c.head ∷ c.body) → IsApplication t) → solved_clause c ≡ Some d → Speaks known c → Speaks known d
  unfolding solved_clause
  solved_speaks c d applies e h = by (most_general_unifier (typed_equations c.sorts c.equations)) e
    where
      by : (o : Option (List Binding)) → solved_by c o ≡ Some d → Speaks known d
      by None q = absurd (cc)
      by (Some bs) q = subst (Speaks known) (clause_of q) (λ t m. mapped_out (carried c.sorts bs) (c.head ∷ c.body) IsOf (λ u k. carried_is_of c bs u (applies u k) (h u k)) t m)

  -- ---- unfolding
  module _ (c e : Clause) (i : ℕ) (hc : IsHeld c) (he : IsHeld e) (sc : Speaks known c) (se : Speaks known e) where
    abbrev J : Clause
    J = joined_clause c i e

    abbrev k : ℕ
    k = length c.sorts

    -- each tree is one of c, or of the body of e past it
    tree_from : (P : Tree ℕ → Type 0) → ((t : Tree ℕ) → Among t (c.head ∷ c.body) → P t) → ((t : Tree ℕ) → Among t (e.head ∷ e.body) → P (mapped (past k) t)) → (u : Tree ℕ) → Among u (J.head ∷ J.body) → P u
    tree_from P one two u a = among_cases a
        (λ q. subst P (sym q) (one c.head first))
        (λ m. elim (among_either u (take i c.body) (mapped_all (past k) e.body ++ drop (suc i) c.body) m) [
          | inl b ↦ one u (next (among_take i c.body u b))
          | inr b ↦ elim (among_either u (mapped_all (past k) e.body) (drop (suc i) c.body) b) [
            | inl x ↦ let w = among_mapped_all (past k) e.body u x in subst P (sym w.2) (two w.0 (next w.1))
            | inr x ↦ one u (next (among_drop (suc i) c.body u x))
          ]
        ])

    pub resolvent_speaks : (d : Clause) → resolvent c i e ≡ Some d → Speaks known d
    unfolding resolvent
    resolvent_speaks d q =
        let one = all_each IsApplication (c.head ∷ c.body) hc.applications in
        let two = all_each IsApplication (e.head ∷ e.body) he.applications in
        solved_speaks J d (tree_from IsApplication one (λ t m. application_mapped (past k) t (two t m))) q (tree_from IsOf sc (λ t m. mapped_is_of (past k) t (se t m)))

  -- ---- loading
  some_is : {d x : Clause} → ◌≡◌ {A = Result (Option Clause) Refusal} (Ok (Some d)) (Ok (Some x)) → d ≡ x
  some_is {d} e = let back : Result (Option Clause) Refusal → Clause = elim [ Ok None ↦ d | Ok (Some y) ↦ y | Err r ↦ d ] in ap back e

  pub loaded_speaks : (c d : Clause) → IsWellFormed c → load_one c ≡ Ok (Some d) → Speaks known c → Speaks known d
  unfolding load_one
  loaded_speaks c d w e h = by (any_side_large c.equations) e
    where
      made : (s : Clause) → solved_clause c ≡ Some s → (o : Result Clause Refusal) → new_clause s ≡ o → made_of o ≡ Ok (Some d) → Speaks known d
      made s q (Err r) n k = absurd (cc)
      made s q (Ok x) n k =
          let same = (new_clause_is_canonical s x (solved_shape c s q).1 n).0 in
          let speaks = solved_speaks c s (all_each IsApplication (c.head ∷ c.body) w.applications) q h in
          subst (Speaks known) (some_is k) (subst (Speaks known) (sym same) (form_speaks s speaks))

      solved : (o : Option Clause) → solved_clause c ≡ o → loaded_solved o ≡ Ok (Some d) → Speaks known d
      solved None q k = absurd (cc)
      solved (Some s) q k = made s q (new_clause s) refl k

      by : (b : Bool) → (if b then Err (TooLarge Shape) else loaded_solved (solved_clause c)) ≡ Ok (Some d) → Speaks known d
      by true k = absurd (cc)
      by false k = solved (solved_clause c) refl k

-- Kept definitions by their predicates.
use Rattle.std.proofs.Common.{◌≡◌, ℕ, suc, ◌+◌, ◌<◌, Bool, true, false, ◌&&◌, List, ◌∷◌, length, refl, ap, ◌∙◌, sym, subst, arith, drop, get_or, add-one, nat_eq}
use Rattle.std.specs.Prelude.{Some, IsTrue, ◌↔◌, if◌then◌else◌}
use Rattle.std.specs.Str.{bytes_eq}
use Rattle.std.proofs.Math.Seq.{drop-cons}
use Rattle.std.proofs.lemmas.Bool.{eqb-true}
use Rattle.std.proofs.lemmas.Bool.Decides.{nat_tests}
use Rattle.std.proofs.lemmas.List.Elements.{recursion_from_All}
use Rattle.std.proofs.lemmas.Slice.Eq.{bytes_eq-Decides}
use Rattle.clp_model.specs.declared.tree.Tree.{Tree, App}
use Rattle.clp_model.specs.declared.predicate.Pred.{Pred}
use Rattle.clp_model.specs.Trees.{mapped, mapped_all, name_of, arguments_of, IsApplication}
use Rattle.clp_model.specs.Predicates.{predicate_of, same_predicate}
use Rattle.clp_model.proofs.Trees.{name_of_app, arguments_of_app, application_is, mapped_app}
use Rattle.clp_model.proofs.RenamedTrees.{length_mapped}
use Rattle.term_store.specs.Trees.{tree_at, trees_at}
use Rattle.clause_store.specs.declared.clause.Clause.{Clause as Kept}
use Rattle.clause_store.specs.Stored.{number_of, clause_in, IsStored}
use Rattle.map_model.specs.State.{definition_among}
use Rattle.map_state.specs.Seen.{Trees, definitions_in, AllKept}

-- ---- equal predicates
both : (a b : Bool) → (a && b) ≡ true → (a ≡ true) × (b ≡ true)
both true b h = (refl, h)
both false b h = cc

pred : List ℕ → ℕ → Pred
pred name arity = record { name = name; arity = arity }

same_self : (p : Pred) → same_predicate p p ≡ true
same_self p = let e = (bytes_eq-Decides p.name p.name).1 refl in let f : nat_eq p.arity p.arity ≡ true = grind (arith, nat_tests) in rw (e, f) refl

same_is : (p q : Pred) → same_predicate p q ≡ true → p ≡ q
unfolding pred
same_is p q h =
    let b = both (bytes_eq p.name q.name) (nat_eq p.arity q.arity) h in
    ap (λ n. pred n p.arity) ((bytes_eq-Decides p.name q.name).0 b.0) ∙ ap (pred q.name) (eqb-true p.arity q.arity b.1)

decides : (r : Bool) (A : Type 0) (q p : Pred) → (IsTrue r ↔ (A × (q ≡ p))) → A → same_predicate q p ≡ r
decides true A q p h a = ap (λ x. same_predicate x p) (h.0 refl).1 ∙ same_self p
decides false A q p h a = by (same_predicate q p) refl
  where
    by : (s : Bool) → same_predicate q p ≡ s → s ≡ false
    by true e = sym (h.1 (a, same_is q p e))
    by false e = refl

-- ---- the predicate of a numbered tree
predicate_app : {V : Type 0} (name : List ℕ) (ts : List (Tree V)) → predicate_of (App name ts) ≡ pred name (length ts)
unfolding pred
predicate_app name ts = ap (λ n. pred n (length (arguments_of (App name ts)))) (name_of_app name ts) ∙ ap (λ us. pred name (length us)) (arguments_of_app name ts)

predicate_mapped : {V W : Type 0} (f : V → W) (t : Tree V) → IsApplication t → predicate_of (mapped f t) ≡ predicate_of t
unfolding pred
predicate_mapped f t h =
    ap (λ u. predicate_of (mapped f u)) (application_is t h)
    ∙ ap predicate_of (mapped_app f (name_of t) (arguments_of t))
    ∙ predicate_app (name_of t) (mapped_all f (arguments_of t))
    ∙ ap (pred (name_of t)) (length_mapped f (arguments_of t))

-- what the test of a stored clause's head tells
is_found : (store : Trees) (c : Kept) (p : Pred) (r : Bool) → IsStored store c → (IsTrue r ↔ (IsApplication (tree_at store c.head) × (predicate_of (tree_at store c.head) ≡ p)))
    → same_predicate (predicate_of (clause_in store c).head) p ≡ r
is_found store c p r stored test =
    let applied = (recursion_from_All IsApplication (trees_at store (c.head ∷ c.atoms)) stored.parts.applications).0 in
    ap (λ q. same_predicate q p) (predicate_mapped number_of (tree_at store c.head) applied)
    ∙ decides r (IsApplication (tree_at store c.head)) (predicate_of (tree_at store c.head)) p test applied

-- ---- the definitions from a place on
from_place : (cs : List Kept) (i : ℕ) (c : Kept) → i < length cs → c ≡ get_or cs i c → drop i cs ≡ c ∷ drop (i + 1) cs
from_place cs i c within item = drop-cons cs i c within ∙ ap (λ x. x ∷ drop (suc i) cs) (sym item) ∙ ap (λ n. c ∷ drop n cs) (sym (add-one i))

pub kept_at : (store : Trees) (cs : List Kept) (i : ℕ) (c : Kept) → i < length cs → c ≡ get_or cs i c → AllKept store (drop i cs) → IsStored store c × AllKept store (drop (i + 1) cs)
kept_at store cs i c within item all = let P : List Kept → Type 0 = AllKept store in subst P (from_place cs i c within item) all

module _ (store : Trees) (cs : List Kept) (i : ℕ) (c : Kept) (p : Pred) (r : Bool) (within : i < length cs) (item : c ≡ get_or cs i c) (stored : IsStored store c)
    (test : IsTrue r ↔ (IsApplication (tree_at store c.head) × (predicate_of (tree_at store c.head) ≡ p))) where
  at_place : definition_among (definitions_in store (drop i cs)) p ≡ (if r then Some (clause_in store c) else definition_among (definitions_in store (drop (i + 1) cs)) p)
  at_place =
      ap (λ ds. definition_among (definitions_in store ds) p) (from_place cs i c within item)
      ∙ ap (λ b. if b then Some (clause_in store c) else definition_among (definitions_in store (drop (i + 1) cs)) p) (is_found store c p r stored test)

  pub found_here : r ≡ true → definition_among (definitions_in store (drop i cs)) p ≡ Some (clause_in store c)
  found_here h = at_place ∙ ap (λ b. if b then Some (clause_in store c) else definition_among (definitions_in store (drop (i + 1) cs)) p) h

  pub not_here : r ≡ false → definition_among (definitions_in store (drop i cs)) p ≡ definition_among (definitions_in store (drop (i + 1) cs)) p
  not_here h = at_place ∙ ap (λ b. if b then Some (clause_in store c) else definition_among (definitions_in store (drop (i + 1) cs)) p) h

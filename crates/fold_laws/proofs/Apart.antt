-- What it means that no internal variable is lost.
use Rattle.std.proofs.Common.{◌≡◌, ℕ, List, [], ◌∷◌, refl, sym, ◌∙◌, ap, subst, Bool, true, false, Some, None}
use Rattle.std.specs.Prelude.{nat_eq, not, ◌&&◌, ◌||◌, if◌then◌else◌}
use Rattle.clp_model.specs.declared.sort.Sort.{Sort}
use Rattle.clp_model.specs.declared.tree.Variable.{Variable}
use Rattle.clp_model.specs.declared.tree.Tree.{Tree, Var, App'}
use Rattle.clp_model.specs.Clauses.{Clause, sort_in}
use Rattle.clp_model.proofs.Membership.{Among, first}
use Rattle.unify_model.specs.Substituting.{same_sort}
use Rattle.unify_laws.proofs.Variables.{same_is}
use Rattle.unify_laws.proofs.Solved.{among_cases}
use Rattle.fold_model.specs.Positions.{is_in}
use Rattle.fold_model.specs.Internal.{number_in, is_variable_of, is_apart, first_lost}
use Rattle.fold_laws.proofs.Bound.{is_then_in}

abbrev of_sort : Sort → Variable
of_sort k = record { number = 0; sort = k }

same_sort_is : (s r : Sort) → same_sort s r ≡ true → s ≡ r
same_sort_is s r h = ap (λ (v : Variable). v.sort) (same_is (of_sort s) (of_sort r) h)

and_parts : (a b : Bool) → (a && not b) ≡ true → (a ≡ true) × (b ≡ false)
and_parts true false h = (refl, refl)
and_parts true true h = absurd (cc)
and_parts false b h = absurd (cc)

or_second : (a b : Bool) → (a || b) ≡ false → b ≡ false
or_second false b h = h
or_second true b h = absurd (cc)

pub variable_image : (sorts : List Sort) (k : Sort) (t : Tree ℕ) → is_variable_of sorts k t ≡ true → (t ≡ Var (number_in t)) × (sort_in sorts (number_in t) ≡ k)
variable_image sorts k (Var y) e = (refl, same_sort_is (sort_in sorts y) k e)
variable_image sorts k (App' name shape args) e = absurd (cc)

-- what is said of an internal variable beside the variables taken before
pub record StaysApart (n c : Clause) (s : ℕ → Tree ℕ) (taken : List ℕ) (x : ℕ) : Type 0 where
  pub variable : is_variable_of c.sorts (sort_in n.sorts x) (s x) ≡ true
  pub free : is_in taken (number_in (s x)) ≡ false

module _ (n c : Clause) (s : ℕ → Tree ℕ) where
  apart_at : (taken : List ℕ) (x : ℕ) → is_apart n c s taken x ≡ true → StaysApart n c s taken x
  apart_at taken x e = let p = and_parts (is_variable_of c.sorts (sort_in n.sorts x) (s x)) (is_in taken (number_in (s x))) e in record { variable = p.0; free = p.1 }

  fewer : (z : ℕ) (taken : List ℕ) (x : ℕ) → StaysApart n c s (z ∷ taken) x → StaysApart n c s taken x
  fewer z taken x a = record { variable = a.variable; free = or_second (nat_eq z (number_in (s x))) (is_in taken (number_in (s x))) a.free }

  one_turn : (taken : List ℕ) (x : ℕ) (xs : List ℕ) → first_lost n c s taken (x ∷ xs) ≡ None → StaysApart n c s taken x × (first_lost n c s (number_in (s x) ∷ taken) xs ≡ None)
  one_turn taken x xs e = by (is_apart n c s taken x) refl e
    where
      by : (b : Bool) → is_apart n c s taken x ≡ b → (if b then first_lost n c s (number_in (s x) ∷ taken) xs else Some x) ≡ None → StaysApart n c s taken x × (first_lost n c s (number_in (s x) ∷ taken) xs ≡ None)
      by true i e = (apart_at taken x i, e)
      by false i e = absurd (cc)

  pub each_apart : (taken xs : List ℕ) → first_lost n c s taken xs ≡ None → (x : ℕ) → Among x xs → StaysApart n c s taken x
  each_apart taken [] e x a = elim a [ ]
  each_apart taken (y ∷ xs) e x a =
      let t = one_turn taken y xs e in
      among_cases a (λ q. subst (λ z. StaysApart n c s taken z) (sym q) t.0) (λ m. fewer (number_in (s y)) taken x (each_apart (number_in (s y) ∷ taken) xs t.1 x m))

  -- an image is none of those before
  not_again : (taken : List ℕ) (y x : ℕ) → StaysApart n c s (number_in (s y) ∷ taken) x → ¬ (number_in (s y) ≡ number_in (s x))
  not_again taken y x a q =
      let f = a.free in
      let t = is_then_in (number_in (s y) ∷ taken) (number_in (s x)) (subst (λ z. Among z (number_in (s y) ∷ taken)) q first) in
      absurd (cc)

  pub each_own : (taken xs : List ℕ) → first_lost n c s taken xs ≡ None → (x y : ℕ) → Among x xs → Among y xs → number_in (s x) ≡ number_in (s y) → x ≡ y
  each_own taken [] e x y a b q = elim a [ ]
  each_own taken (z ∷ xs) e x y a b q =
      let t = one_turn taken z xs e in
      let later : (v : ℕ) → Among v xs → ¬ (number_in (s z) ≡ number_in (s v)) = λ v m. not_again taken z v (each_apart (number_in (s z) ∷ taken) xs t.1 v m) in
      among_cases a
      (λ i. among_cases b (λ j. i ∙ sym j) (λ m. absurd (later y m (ap (λ v. number_in (s v)) (sym i) ∙ q))))
      (λ m. among_cases b (λ j. absurd (later x m (ap (λ v. number_in (s v)) (sym j) ∙ sym q))) (λ k. each_own (number_in (s z) ∷ taken) xs t.1 x y m k q))

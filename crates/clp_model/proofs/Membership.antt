-- Membership in lists as data, the list of the distinct numbers, and the places of numbers in it.
use Rattle.std.proofs.Common.{◌≡◌, ℕ, zero, suc, List, [], ◌∷◌, ◌++◌, refl, ap, ◌∙◌, sym, subst, arith, ◌⊎◌, inl, inr, Bool, true, false, map, eq-eqb}
use Rattle.std.specs.Prelude.{Contains, nat_eq, if◌then◌else◌, slice_index_or, ◌||◌}
use Rattle.std.specs.List.{list_any, AllByRecursion}
use Rattle.std.proofs.lemmas.Bool.{eqb-true}
use Rattle.std.proofs.lemmas.List.{map-id}
use Rattle.clp_model.specs.Predicates.{with_element, distinct_after}
use Rattle.clp_model.specs.Canonical.{place_in}

-- x stands in the list
pub data Among {A : Type 0} : A → List A → Type 0 where
  first : {x : A} {xs : List A} → Among x (x ∷ xs)
  next : {x y : A} {xs : List A} → Among x xs → Among x (y ∷ xs)

pub to_among : {A : Type 0} (xs : List A) (x : A) → Contains xs x → Among x xs
to_among [] x c = absurd (omega (arith, c.1))
to_among (y ∷ xs) x (zero, lt, e) = subst (λ z. Among z (y ∷ xs)) e first
to_among (y ∷ xs) x (suc n, lt, e) = next (to_among xs x (n, omega arith, e))

pub from_among : {A : Type 0} {x : A} {xs : List A} → Among x xs → Contains xs x
from_among first = (0, omega arith, refl)
from_among (next m) = let c = from_among m in (suc c.0, omega (arith, c.1), c.2)

pub among_front : {A : Type 0} (x : A) (xs ys : List A) → Among x xs → Among x (xs ++ ys)
among_front x [] ys m = elim m [ ]
among_front x (y ∷ xs) ys first = first
among_front x (y ∷ xs) ys (next m) = next (among_front x xs ys m)

pub among_back : {A : Type 0} (x : A) (xs ys : List A) → Among x ys → Among x (xs ++ ys)
among_back x [] ys m = m
among_back x (y ∷ xs) ys m = next (among_back x xs ys m)

pub among_last : {A : Type 0} (x : A) (xs : List A) → Among x (xs ++ x ∷ [])
among_last x xs = among_back x xs (x ∷ []) first

pub among_either : {A : Type 0} (x : A) (xs ys : List A) → Among x (xs ++ ys) → Among x xs ⊎ Among x ys
among_either x [] ys m = inr m
among_either x (y ∷ xs) ys first = inl first
among_either x (y ∷ xs) ys (next m) = elim (among_either x xs ys m) [ inl a ↦ inl (next a) | inr b ↦ inr b ]

pub among_mapped : {A B : Type 0} (f : A → B) {x : A} {xs : List A} → Among x xs → Among (f x) (map f xs)
among_mapped f first = first
among_mapped f (next m) = next (among_mapped f m)

pub all_among : {A : Type 0} (P : A → Type 0) (xs : List A) → ((x : A) → Among x xs → P x) → AllByRecursion P xs
all_among P [] h = tt
all_among P (x ∷ xs) h = (h x first, all_among P xs (λ y a. h y (next a)))

-- ---- distinct numbers

found_first : (x y : ℕ) (ys : List ℕ) → (list_any (λ z. nat_eq z x) ys ≡ true → Among x ys) → (b : Bool) → nat_eq y x ≡ b → (b || list_any (λ z. nat_eq z x) ys) ≡ true → Among x (y ∷ ys)
found_first x y ys again true h e = subst (λ z. Among z (y ∷ ys)) (eqb-true y x h) first
found_first x y ys again false h e = next (again e)

-- what is found by the test stands in the list
pub found_among : (x : ℕ) (found : List ℕ) → list_any (λ y. nat_eq y x) found ≡ true → Among x found
found_among x [] e = absurd (cc)
found_among x (y ∷ ys) e = found_first x y ys (found_among x ys) (nat_eq y x) refl e

with_keeps : (found : List ℕ) (x n : ℕ) → Among n found → Among n (with_element nat_eq found x)
with_keeps found x n m = by (list_any (λ y. nat_eq y x) found)
  where
    by : (b : Bool) → Among n (if b then found else found ++ x ∷ [])
    by true = m
    by false = among_front n found (x ∷ []) m

with_has : (found : List ℕ) (x : ℕ) → Among x (with_element nat_eq found x)
with_has found x = by (list_any (λ y. nat_eq y x) found) refl
  where
    by : (b : Bool) → list_any (λ y. nat_eq y x) found ≡ b → Among x (if b then found else found ++ x ∷ [])
    by true e = found_among x found e
    by false e = among_last x found

pub distinct_keeps : (found xs : List ℕ) (n : ℕ) → Among n found → Among n (distinct_after nat_eq found xs)
distinct_keeps found [] n m = m
distinct_keeps found (x ∷ xs) n m = distinct_keeps (with_element nat_eq found x) xs n (with_keeps found x n m)

pub distinct_has : (found xs : List ℕ) (n : ℕ) → Among n xs → Among n (distinct_after nat_eq found xs)
distinct_has found [] n m = elim m [ ]
distinct_has found (x ∷ xs) n first = distinct_keeps (with_element nat_eq found x) xs n (with_has found x)
distinct_has found (x ∷ xs) n (next m) = distinct_has (with_element nat_eq found x) xs n m

pub behind : (x n : ℕ) (met : List ℕ) → Among n (x ∷ met) → nat_eq x n ≡ false → Among n met
behind x n met first h = absurd (let e = eq-eqb x x refl in cc)
behind x n met (next m) h = m

placed : {B : Type 0} (f : ℕ → B) (x : ℕ) (met : List ℕ) (n : ℕ) (d e : B) → Among n (x ∷ met)
    → (Among n met → slice_index_or (f x ∷ map f met) (place_in met n) e ≡ f n)
    → (b : Bool) → nat_eq x n ≡ b → slice_index_or (d ∷ f x ∷ map f met) (if b then 1 else suc (place_in met n)) e ≡ f n
placed f x met n d e m again true h = ap f (eqb-true x n h)
placed f x met n d e m again false h = again (behind x n met m h)

-- at its place in the list stands the number, and in a mapped list what is made of it
pub at_place : {B : Type 0} (f : ℕ → B) (met : List ℕ) (n : ℕ) (d e : B) → Among n met → slice_index_or (d ∷ map f met) (place_in met n) e ≡ f n
at_place f [] n d e m = elim m [ ]
at_place f (x ∷ met) n d e m = placed f x met n d e m (at_place f met n (f x) e) (nat_eq x n) refl

-- at its place in the list stands the number itself
pub at_own_place : (met : List ℕ) (n : ℕ) → Among n met → slice_index_or (0 ∷ met) (place_in met n) 0 ≡ n
at_own_place met n m = ap (λ ms. slice_index_or (0 ∷ ms) (place_in met n) 0) (sym (map-id met)) ∙ at_place (λ k. k) met n 0 0 m

pub distinct_append : (found xs ys : List ℕ) → distinct_after nat_eq found (xs ++ ys) ≡ distinct_after nat_eq (distinct_after nat_eq found xs) ys
distinct_append found [] ys = refl
distinct_append found (x ∷ xs) ys = distinct_append (with_element nat_eq found x) xs ys

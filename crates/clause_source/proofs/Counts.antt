-- A list without repeats is no longer than a list that has its elements.
use Rattle.std.proofs.Common.{◌≡◌, ℕ, zero, suc, ◌<◌, ◌≤◌, List, [], ◌∷◌, ◌++◌, length, arith, refl, sym, ap, subst, inl, inr}
use Rattle.std.proofs.lemmas.List.{length-append}
use Rattle.unify_laws.proofs.Solved.{among_cases}
use Rattle.clp_model.proofs.Membership.{Among, first, next, among_front, among_back, among_either}
use Rattle.clause_laws.proofs.Distinct.{AreDistinct}
use Rattle.clause_laws.proofs.Upto.{numbers, upto, upto_has}

-- a list with an element that stands in it
record Split {A : Type 0} (x : A) (ys : List A) : Type 0 where
  pub before : List A
  pub behind : List A
  pub is : ys ≡ before ++ x ∷ behind

split_at : {A : Type 0} (x : A) (ys : List A) → Among x ys → Split x ys
split_at x [] a = elim a [ ]
split_at x (y ∷ ys) a = among_cases a
    (λ e. record { before = []; behind = ys; is = ap (λ z. z ∷ ys) (sym e) })
    (λ b. let s = split_at x ys b in record { before = y ∷ s.before; behind = s.behind; is = ap (λ zs. y ∷ zs) s.is })

pub few_distinct : {A : Type 0} (xs ys : List A) → AreDistinct xs → ((x : A) → Among x xs → Among x ys) → length xs ≤ length ys
few_distinct [] ys d h = omega arith
few_distinct {A} (x ∷ xs) ys d h =
    let s = split_at x ys (h x first) in
    let others : (z : A) → Among z xs → Among z (s.before ++ s.behind) = λ z a. elim (among_either z s.before (x ∷ s.behind) (subst (Among z) s.is (h z (next a)))) [
      | inl b ↦ among_front z s.before s.behind b
      | inr b ↦ among_cases b (λ e. absurd (d.0 (subst (λ w. Among w xs) e a))) (λ k. among_back z s.before s.behind k)
    ] in
    let rest = few_distinct xs (s.before ++ s.behind) d.1 others in
    omega (arith, rest, length-append s.before s.behind, length-append s.before (x ∷ s.behind), ap length s.is)

length_numbers : (k n : ℕ) → length (numbers k n) ≡ n
length_numbers k zero = refl
length_numbers k (suc n) = ap suc (length_numbers (suc k) n)

-- distinct numbers from 1 to n are at most n
pub few_numbers : (n : ℕ) (xs : List ℕ) → AreDistinct xs → ((x : ℕ) → Among x xs → (0 < x) × (x ≤ n)) → length xs ≤ n
few_numbers n xs d h =
    let few = few_distinct xs (upto n) d (λ x a. let w = h x a in upto_has n x w.0 w.1) in
    omega (arith, few, length_numbers 0 n)

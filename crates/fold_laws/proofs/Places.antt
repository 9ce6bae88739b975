-- Elements whose positions are given, and the others.
use Rattle.std.proofs.Common.{◌≡◌, ℕ, suc, ◌+◌, ◌-◌, ◌<◌, ◌≤◌, List, [], ◌∷◌, length, arith, refl, sym, ◌∙◌, ap, subst, Bool, true, false, ◌⊎◌, inl, inr, Some, None}
use Rattle.std.specs.Prelude.{nat_eq, ◌||◌, if◌then◌else◌, slice_index_or}
use Rattle.std.proofs.lemmas.Bool.{eqb-true}
use Rattle.clp_model.proofs.Membership.{Among, first, next}
use Rattle.unify_laws.proofs.Solved.{among_cases}
use Rattle.clp_rank.specs.Rules.{Removed, here, later, Taken, nothing, taking}
use Rattle.fold_model.specs.Positions.{in_range, first_outside, is_in, first_again, at_positions, chosen_from, others_from, replaced_from}

-- a position below all that are left is not looked at
others_past : {A : Type 0} (n p : ℕ) (ps : List ℕ) (xs : List A) → p < n → others_from n (p ∷ ps) xs ≡ others_from n ps xs
others_past n p ps [] l = refl
others_past {A} n p ps (x ∷ xs) l = by (nat_eq p n) refl (others_past (suc n) p ps xs (omega (arith, l)))
  where
    by : (b : Bool) → nat_eq p n ≡ b → others_from (suc n) (p ∷ ps) xs ≡ others_from (suc n) ps xs
        → (if b || is_in ps n then others_from (suc n) (p ∷ ps) xs else x ∷ others_from (suc n) (p ∷ ps) xs) ≡ others_from n ps (x ∷ xs)
    by true e again = absurd (let k = eqb-true p n e in omega (arith, l))
    by false e again = ap (λ (ys : List A). if is_in ps n then ys else x ∷ ys) again

-- one position more takes its element out of the others
pub removed_other : {A : Type 0} (d : A) (n p : ℕ) (ps : List ℕ) (xs : List A) → n ≤ p → p < n + length xs → is_in ps p ≡ false
    → Removed (slice_index_or xs (p - n) d) (others_from n ps xs) (others_from n (p ∷ ps) xs)
removed_other d n p ps [] l u e = absurd (omega (arith, l, u))
removed_other {A} d n p ps (x ∷ xs) l u e = by (nat_eq p n) refl (λ below. removed_other d (suc n) p ps xs below (omega (arith, u)) e)
  where
    place : p - n ≡ suc (p - suc n) → slice_index_or xs (p - suc n) d ≡ slice_index_or (x ∷ xs) (p - n) d
    place e = ap (λ i. slice_index_or (x ∷ xs) i d) (sym e)

    skip : (c : Bool) → Removed (slice_index_or (x ∷ xs) (p - n) d) (others_from (suc n) ps xs) (others_from (suc n) (p ∷ ps) xs)
        → Removed (slice_index_or (x ∷ xs) (p - n) d) (if c then others_from (suc n) ps xs else x ∷ others_from (suc n) ps xs) (if c then others_from (suc n) (p ∷ ps) xs else x ∷ others_from (suc n) (p ∷ ps) xs)
    skip true r = r
    skip false r = later r

    at_it : p ≡ n → (c : Bool) → is_in ps n ≡ c → Removed (slice_index_or (x ∷ xs) (p - n) d) (if c then others_from (suc n) ps xs else x ∷ others_from (suc n) ps xs) (others_from (suc n) (p ∷ ps) xs)
    at_it q true h = absurd (let k = ap (is_in ps) q in cc)
    at_it q false h =
        let i : p - n ≡ 0 = omega (arith, q) in
        let s : slice_index_or (x ∷ xs) (p - n) d ≡ x = ap (λ i. slice_index_or (x ∷ xs) i d) i in
        let o : others_from (suc n) (p ∷ ps) xs ≡ others_from (suc n) ps xs = others_past (suc n) p ps xs (omega (arith, q)) in
        subst (λ y. Removed y (x ∷ others_from (suc n) ps xs) (others_from (suc n) (p ∷ ps) xs)) (sym s)
        (subst (λ (ys : List A). Removed x (x ∷ others_from (suc n) ps xs) ys) (sym o) here)

    above : nat_eq p n ≡ false → suc n ≤ p
    above h = grind arith

    by : (b : Bool) → nat_eq p n ≡ b → (suc n ≤ p → Removed (slice_index_or xs (p - suc n) d) (others_from (suc n) ps xs) (others_from (suc n) (p ∷ ps) xs))
        → Removed (slice_index_or (x ∷ xs) (p - n) d) (others_from n ps (x ∷ xs)) (if b || is_in ps n then others_from (suc n) (p ∷ ps) xs else x ∷ others_from (suc n) (p ∷ ps) xs)
    by true h again = at_it (eqb-true p n h) (is_in ps n) refl
    by false h again =
        let below : suc n ≤ p = above h in
        skip (is_in ps n) (subst (λ y. Removed y (others_from (suc n) ps xs) (others_from (suc n) (p ∷ ps) xs)) (place (omega (arith, below))) (again below))

-- all of these positions, after those before
abbrev pub all_positions : List ℕ → List ℕ → List ℕ
all_positions before [] = before
all_positions before (p ∷ ps) = all_positions (p ∷ before) ps

pub inside : (count p : ℕ) (b : Bool) → in_range count p ≡ b → b ≡ true → (1 ≤ p) × (p ≤ count)
inside count p b e t = grind arith

-- the elements at distinct positions are taken out, one after another
pub taken_from : {A : Type 0} (d : A) (before ps : List ℕ) (xs : List A) → first_outside (length xs) ps ≡ None → first_again before ps ≡ None
    → Taken (others_from 1 before xs) (at_positions d xs ps) (others_from 1 (all_positions before ps) xs)
taken_from d before [] xs o a = nothing
taken_from {A} d before (p ∷ ps) xs o a = by (in_range (length xs) p) refl (is_in before p) refl (taken_from d (p ∷ before) ps xs) o a
  where
    by : (b : Bool) → in_range (length xs) p ≡ b → (c : Bool) → is_in before p ≡ c
        → (first_outside (length xs) ps ≡ None → first_again (p ∷ before) ps ≡ None → Taken (others_from 1 (p ∷ before) xs) (at_positions d xs ps) (others_from 1 (all_positions (p ∷ before) ps) xs))
        → (if b then first_outside (length xs) ps else Some p) ≡ None → (if c then Some p else first_again (p ∷ before) ps) ≡ None
        → Taken (others_from 1 before xs) (slice_index_or xs (p - 1) d ∷ at_positions d xs ps) (others_from 1 (all_positions (p ∷ before) ps) xs)
    by false i c j again o a = absurd (cc)
    by true i true j again o a = absurd (cc)
    by true i false j again o a =
        let r = inside (length xs) p true i refl in
        taking (removed_other d 1 p before xs r.0 (let t = r.1 in omega (arith, t)) j) (again o a)

-- the order in which positions are given doesn't count
others_same : {A : Type 0} (n : ℕ) (ps qs : List ℕ) (xs : List A) → ((k : ℕ) → is_in ps k ≡ is_in qs k) → others_from n ps xs ≡ others_from n qs xs
others_same n ps qs [] h = refl
others_same n ps qs (x ∷ xs) h = let a = h n in let b = others_same (suc n) ps qs xs h in cc

or_false : (b : Bool) → (b || false) ≡ b
or_false true = refl
or_false false = refl

in_positions : (before ps : List ℕ) (k : ℕ) → is_in (all_positions before ps) k ≡ (is_in ps k || is_in before k)
in_positions before [] k = refl
in_positions before (p ∷ ps) k = in_positions (p ∷ before) ps k ∙ swap (is_in ps k) (nat_eq p k) (is_in before k)
  where
    swap : (a b c : Bool) → (a || (b || c)) ≡ ((b || a) || c)
    swap true true c = refl
    swap true false c = refl
    swap false true c = refl
    swap false false c = refl

others_nothing : {A : Type 0} (n : ℕ) (xs : List A) → others_from n [] xs ≡ xs
others_nothing n [] = refl
others_nothing n (x ∷ xs) = ap (λ ys. x ∷ ys) (others_nothing (suc n) xs)

pub taken_at : {A : Type 0} (d : A) (ps : List ℕ) (xs : List A) → first_outside (length xs) ps ≡ None → first_again [] ps ≡ None → Taken xs (at_positions d xs ps) (others_from 1 ps xs)
taken_at {A} d ps xs o a =
    subst (λ (ys : List A). Taken ys (at_positions d xs ps) (others_from 1 ps xs)) (others_nothing 1 xs)
    (subst (λ (ys : List A). Taken (others_from 1 [] xs) (at_positions d xs ps) ys) (others_same 1 (all_positions [] ps) ps xs (λ k. in_positions [] ps k ∙ or_false (is_in ps k)))
    (taken_from d [] ps xs o a))

-- an element stands in the place of the first that is given
pub removed_replaced : {A : Type 0} (a : A) (n : ℕ) (ps : List ℕ) (xs : List A) (k : ℕ) → n ≤ k → k < n + length xs → is_in ps k ≡ true → Removed a (replaced_from a n ps xs) (others_from n ps xs)
removed_replaced a n ps [] k l u e = absurd (omega (arith, l, u))
removed_replaced {A} a n ps (x ∷ xs) k l u e = by (is_in ps n) refl (λ below. removed_replaced a (suc n) ps xs k below (omega (arith, u)) e)
  where
    by : (b : Bool) → is_in ps n ≡ b → (suc n ≤ k → Removed a (replaced_from a (suc n) ps xs) (others_from (suc n) ps xs))
        → Removed a (if b then a ∷ others_from (suc n) ps xs else x ∷ replaced_from a (suc n) ps xs) (if b then others_from (suc n) ps xs else x ∷ others_from (suc n) ps xs)
    by true h again = here
    by false h again =
        let other : ¬ (k ≡ n) = λ q. let t = ap (is_in ps) q in absurd (cc) in
        later (again (omega (arith, l, other)))

-- ---- what is chosen and what is not
pub chosen_old : {A : Type 0} (n : ℕ) (ps : List ℕ) (xs : List A) (y : A) → Among y (chosen_from n ps xs) → Among y xs
chosen_old n ps [] y a = elim a [ ]
chosen_old {A} n ps (x ∷ xs) y a = by (is_in ps n) (chosen_old (suc n) ps xs y) a
  where
    by : (b : Bool) → (Among y (chosen_from (suc n) ps xs) → Among y xs) → Among y (if b then x ∷ chosen_from (suc n) ps xs else chosen_from (suc n) ps xs) → Among y (x ∷ xs)
    by true again m = among_cases m (λ q. subst (λ z. Among z (x ∷ xs)) (sym q) first) (λ k. next (again k))
    by false again m = next (again m)

abbrev IsEither : {A : Type 0} → ℕ → List ℕ → List A → A → Type 0
IsEither n ps xs y = Among y (chosen_from n ps xs) ⊎ Among y (others_from n ps xs)

pub chosen_or_other : {A : Type 0} (n : ℕ) (ps : List ℕ) (xs : List A) (y : A) → Among y xs → IsEither n ps xs y
chosen_or_other n ps [] y a = elim a [ ]
chosen_or_other {A} n ps (x ∷ xs) y a = by (is_in ps n) (chosen_or_other (suc n) ps xs y) a
  where
    by : (b : Bool) → (Among y xs → IsEither (suc n) ps xs y) → Among y (x ∷ xs)
        → Among y (if b then x ∷ chosen_from (suc n) ps xs else chosen_from (suc n) ps xs) ⊎ Among y (if b then others_from (suc n) ps xs else x ∷ others_from (suc n) ps xs)
    by true again m = among_cases m (λ q. inl (subst (λ z. Among z (x ∷ chosen_from (suc n) ps xs)) (sym q) first)) (λ k. elim (again k) [ inl i ↦ inl (next i) | inr i ↦ inr i ])
    by false again m = among_cases m (λ q. inr (subst (λ z. Among z (x ∷ others_from (suc n) ps xs)) (sym q) first)) (λ k. elim (again k) [ inl i ↦ inl i | inr i ↦ inr (next i) ])

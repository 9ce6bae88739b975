-- How many elements are at given positions, and how many are not.
use Rattle.std.proofs.Common.{◌≡◌, ℕ, suc, ◌+◌, ◌<◌, ◌≤◌, List, [], ◌∷◌, length, Bool, true, false, ◌||◌, nat_eq, refl, ap, arith, All, if◌then◌else◌}
use Rattle.std.proofs.lemmas.Bool.{eqb-true}
use Rattle.std.proofs.lemmas.Bool.Decides.{nat_tests}
use Rattle.std.proofs.lemmas.List.Elements.{All-nil, All-cons, All-head, All-tail}
use Rattle.fold_model.specs.Positions.{is_in, chosen_from, others_from, chosen, others}

-- ---- a position that is passed already
not_met : (p n : ℕ) → p < n → nat_eq p n ≡ false
not_met p n h = grind (arith, nat_tests)

module _ {A : Type 0} (p : ℕ) (ps : List ℕ) where
  passed : (n : ℕ) (xs : List A) → p < n → length (chosen_from n (p ∷ ps) xs) ≡ length (chosen_from n ps xs)
  passed n [] h = refl
  passed n (x ∷ xs) h = by (nat_eq p n) (is_in ps n) (not_met p n h) (passed (suc n) xs (omega arith))
    where
      by : (a b : Bool) → a ≡ false → length (chosen_from (suc n) (p ∷ ps) xs) ≡ length (chosen_from (suc n) ps xs)
          → length (if (a || b) then x ∷ chosen_from (suc n) (p ∷ ps) xs else chosen_from (suc n) (p ∷ ps) xs) ≡ length (if b then x ∷ chosen_from (suc n) ps xs else chosen_from (suc n) ps xs)
      by true b e r = absurd (cc)
      by false true e r = ap suc r
      by false false e r = r

  -- one more position chooses at most one more
  one_more : (n : ℕ) (xs : List A) → length (chosen_from n (p ∷ ps) xs) ≤ length (chosen_from n ps xs) + 1
  one_more n [] = omega arith
  one_more n (x ∷ xs) = by (nat_eq p n) (is_in ps n) refl (one_more (suc n) xs)
    where
      by : (a b : Bool) → nat_eq p n ≡ a → length (chosen_from (suc n) (p ∷ ps) xs) ≤ length (chosen_from (suc n) ps xs) + 1
          → length (if (a || b) then x ∷ chosen_from (suc n) (p ∷ ps) xs else chosen_from (suc n) (p ∷ ps) xs) ≤ length (if b then x ∷ chosen_from (suc n) ps xs else chosen_from (suc n) ps xs) + 1
      by true b e r = met b (passed (suc n) xs (let q : p ≡ n = eqb-true p n e in omega arith))
        where
          met : (c : Bool) → length (chosen_from (suc n) (p ∷ ps) xs) ≡ length (chosen_from (suc n) ps xs)
              → length (x ∷ chosen_from (suc n) (p ∷ ps) xs) ≤ length (if c then x ∷ chosen_from (suc n) ps xs else chosen_from (suc n) ps xs) + 1
          met true q = omega arith
          met false q = omega arith
      by false true e r = omega arith
      by false false e r = r

chosen_by_none : {A : Type 0} (n : ℕ) (xs : List A) → chosen_from n [] xs ≡ []
chosen_by_none n [] = refl
chosen_by_none n (x ∷ xs) = chosen_by_none (suc n) xs

few_from : {A : Type 0} (n : ℕ) (ps : List ℕ) (xs : List A) → length (chosen_from n ps xs) ≤ length ps
few_from n [] xs = let e = ap length (chosen_by_none n xs) in omega arith
few_from n (p ∷ ps) xs = omega (arith, one_more p ps n xs, few_from n ps xs)

-- no more are chosen than there are positions
pub few_chosen : {A : Type 0} (ps : List ℕ) (xs : List A) → length (chosen ps xs) ≤ length ps
few_chosen ps xs = few_from 1 ps xs

-- ---- those whose positions are not given
few_others_from : {A : Type 0} (n : ℕ) (ps : List ℕ) (xs : List A) → length (others_from n ps xs) ≤ length xs
few_others_from n ps [] = omega arith
few_others_from {A} n ps (x ∷ xs) = by (is_in ps n) (few_others_from (suc n) ps xs)
  where
    by : (b : Bool) → length (others_from (suc n) ps xs) ≤ length xs → length (if b then others_from (suc n) ps xs else x ∷ others_from (suc n) ps xs) ≤ suc (length xs)
    by true h = omega arith
    by false h = omega arith

pub few_others : {A : Type 0} (ps : List ℕ) (xs : List A) → length (others ps xs) ≤ length xs
few_others ps xs = few_others_from 1 ps xs

all_from : {A : Type 0} (P : A → Type 0) (n : ℕ) (ps : List ℕ) (xs : List A) → All P xs → All P (others_from n ps xs)
all_from P n ps [] h = All-nil P
all_from {A} P n ps (x ∷ xs) h = by (is_in ps n) (all_from P (suc n) ps xs (All-tail P x xs h))
  where
    by : (b : Bool) → All P (others_from (suc n) ps xs) → All P (if b then others_from (suc n) ps xs else x ∷ others_from (suc n) ps xs)
    by true r = r
    by false r = All-cons P x (others_from (suc n) ps xs) (All-head P x xs h) r

-- what holds of each holds of each of them
pub all_others : {A : Type 0} (P : A → Type 0) (ps : List ℕ) (xs : List A) → All P xs → All P (others ps xs)
all_others P ps xs h = all_from P 1 ps xs h

-- The pairs of a row by rising variables, as the definition has them and as the code sorts them.
use Rattle.std.proofs.Common.{◌≡◌, ℕ, zero, suc, ◌+◌, ◌<◌, ◌≤◌, List, [], ◌∷◌, ◌++◌, length, get_or, take, Bool, true, false, nat_eq, arith, refl, sym, ◌∙◌, ap}
use Rattle.std.specs.Prelude.{if◌then◌else◌}
use Rattle.std.specs.List.{AllByRecursion, IsDistinct}
use Rattle.std.specs.Map.{keys_of}
use Rattle.std.specs.List.Sorted.{IsPermutation, IsNonDecreasingBy}
use Rattle.std.proofs.lemmas.List.Sorted.{sum_by-IsPermutation, IsPermutation-map}
use Rattle.std.proofs.lemmas.List.Recursion.{is_sum_by}
use Rattle.std.proofs.lemmas.Map.Keys.{IsDistinct-IsPermutation}
use Rattle.std.proofs.Math.IntN.{ℤ, pos, negsuc, neg_ℤ, ◌+ℤ◌}
use Rattle.std.proofs.Math.Seq.{take-append_seam}
use Rattle.std.proofs.lemmas.Int.{ints}
use Rattle.std.proofs.lemmas.Bool.Decides.{nat_tests}
use Rattle.linear_model.specs.Forms.{is_zero, coefficient, with_pair, combined, Above, IsRising}
use Rattle.lin_row.specs.Rows.{VariablesRise, nonzero}
use Rattle.lin_row.proofs.Rising.{combined_rising, nonzero_rising}
use Rattle.lin_row.proofs.Combined.{coefficient_combined}
use Rattle.lin_row.proofs.Renaming.{coefficient_nonzero, rising_same}
use Rattle.form_model.specs.Forms.{in_order}

abbrev Pairs : Type 0
Pairs = List (ℕ × ℤ)

abbrev term : ℕ × ℤ → ℕ → ℤ
term p v = if nat_eq p.0 v then p.1 else pos 0

-- ---- as they are defined
pub in_order_rising : (ps : Pairs) → IsRising (in_order ps)
in_order_rising [] = tt
in_order_rising (p ∷ ps) = by (is_zero p.1) refl (in_order_rising ps)
  where
    by : (b : Bool) → is_zero p.1 ≡ b → IsRising (in_order ps) → IsRising (combined (pos 1) (if b then [] else (p.0, p.1) ∷ []) (pos 1) (in_order ps))
    by true e ih = combined_rising (pos 1) [] (pos 1) (in_order ps) tt ih
    by false e ih = combined_rising (pos 1) ((p.0, p.1) ∷ []) (pos 1) (in_order ps) (e, tt, tt) ih

pub coefficient_in_order : (v : ℕ) (ps : Pairs) → coefficient (in_order ps) v ≡ coefficient ps v
coefficient_in_order v [] = refl
coefficient_in_order v (p ∷ ps) =
    let e = coefficient_combined v (pos 1) (with_pair p.0 p.1 []) (pos 1) (in_order ps) in
    let f : coefficient (with_pair p.0 p.1 []) v ≡ coefficient (p ∷ []) v = coefficient_nonzero v (p ∷ []) in
    let h = coefficient_in_order v ps in
    e ∙ omega (arith, ints)

-- ---- an exchange keeps the coefficients
abbrev above_zero : ℤ → ℕ
above_zero (pos n) = n
above_zero (negsuc n) = 0

abbrev below_zero : ℤ → ℕ
below_zero (pos n) = 0
below_zero (negsuc n) = suc n

two_parts : (z : ℤ) → z ≡ pos (above_zero z) +ℤ neg_ℤ (pos (below_zero z))
two_parts (pos n) = omega (arith, ints)
two_parts (negsuc n) = omega (arith, ints)

abbrev ups : ℕ → Pairs → ℕ
ups v [] = 0
ups v (p ∷ ps) = above_zero (term p v) + ups v ps

abbrev downs : ℕ → Pairs → ℕ
downs v [] = 0
downs v (p ∷ ps) = below_zero (term p v) + downs v ps

coefficient_parts : (v : ℕ) (ps : Pairs) → coefficient ps v ≡ pos (ups v ps) +ℤ neg_ℤ (pos (downs v ps))
coefficient_parts v [] = omega (arith, ints)
coefficient_parts v (p ∷ ps) =
    let e = two_parts (term p v) in
    let h = coefficient_parts v ps in
    omega (arith, ints)

coefficient_exchanged : (v : ℕ) (ps qs : Pairs) → IsPermutation ps qs → coefficient qs v ≡ coefficient ps v
coefficient_exchanged v ps qs h =
    let up = is_sum_by (ups v) (λ p. above_zero (term p v)) refl (λ _ _. refl) in
    let down = is_sum_by (downs v) (λ p. below_zero (term p v)) refl (λ _ _. refl) in
    let e : ups v qs ≡ ups v ps = up qs ∙ (sum_by-IsPermutation (λ p. above_zero (term p v)) ps qs h ∙ sym (up ps)) in
    let f : downs v qs ≡ downs v ps = down qs ∙ (sum_by-IsPermutation (λ p. below_zero (term p v)) ps qs h ∙ sym (down ps)) in
    let a = coefficient_parts v ps in
    let b = coefficient_parts v qs in
    omega (arith, ints)

-- ---- sorted pairs of distinct variables rise
abbrev Apart : ℕ → Pairs → Type 0
Apart n ps = AllByRecursion (λ w. nat_eq n w ≡ false) (keys_of ps)

above_after : (p : ℕ × ℤ) (ps : Pairs) → Apart p.0 ps → IsNonDecreasingBy (λ (q : ℕ × ℤ). q.0) (p ∷ ps) → Above p.0 ps
above_after p [] a h = tt
above_after p (q ∷ qs) a h =
    let le = h 0 1 p (omega arith) (omega arith) in
    let ne = a.0 in
    let lt : p.0 < q.0 = grind (arith, nat_tests) in
    (lt, above_after p qs a.1 (λ i j d x y. skip i j d x y))
  where
    skip : (i j : ℕ) (d : ℕ × ℤ) → i ≤ j → j < length (p ∷ qs) → (get_or (p ∷ qs) i d).0 ≤ (get_or (p ∷ qs) j d).0
    skip zero zero d x y = omega arith
    skip zero (suc j) d x y = h 0 (suc (suc j)) d (omega arith) (omega arith)
    skip (suc i) zero d x y = absurd (omega arith)
    skip (suc i) (suc j) d x y = h (suc (suc i)) (suc (suc j)) d (omega arith) (omega arith)

distinct_rise : (ps : Pairs) → IsDistinct nat_eq (keys_of ps) → IsNonDecreasingBy (λ (q : ℕ × ℤ). q.0) ps → VariablesRise ps
unfolding IsDistinct
distinct_rise [] d h = tt
distinct_rise (p ∷ ps) d h = (above_after p ps d.0 h, distinct_rise ps d.1 (λ i j x a b. h (suc i) (suc j) x (omega arith) (omega arith)))

flips : (x y : ℕ) → nat_eq x y ≡ nat_eq y x
flips x y = by (nat_eq x y) refl (nat_eq y x) refl
  where
    by : (a : Bool) → nat_eq x y ≡ a → (b : Bool) → nat_eq y x ≡ b → nat_eq x y ≡ nat_eq y x
    by true e true f = e ∙ sym f
    by false e false f = e ∙ sym f
    by true e false f = absurd (let s : x ≡ y = grind (arith, nat_tests) in let t : nat_eq y x ≡ true = grind (arith, nat_tests) in cc)
    by false e true f = absurd (let s : y ≡ x = grind (arith, nat_tests) in let t : nat_eq x y ≡ true = grind (arith, nat_tests) in cc)

pub sorted_rise : (ps qs : Pairs) → IsPermutation ps qs → IsDistinct nat_eq (keys_of ps) → IsNonDecreasingBy (λ (q : ℕ × ℤ). q.0) qs → VariablesRise qs
sorted_rise ps qs x d h =
    distinct_rise qs (IsDistinct-IsPermutation nat_eq flips (keys_of ps) (keys_of qs) (IsPermutation-map (λ (p : ℕ × ℤ). p.0) ps qs x) d) h

-- what the code sorts is what the definition puts in order
pub sorted_is : (ps qs : Pairs) → IsPermutation ps qs → VariablesRise qs → nonzero qs ≡ in_order ps
sorted_is ps qs x r =
    rising_same (nonzero qs) (in_order ps) (nonzero_rising qs r) (in_order_rising ps)
    (λ v. coefficient_nonzero v qs ∙ (coefficient_exchanged v ps qs x ∙ sym (coefficient_in_order v ps)))

-- what a slice that is all of a vector leaves there
pub written_back : (n : ℕ) (xs ys : Pairs) → length xs ≡ n → take n (xs ++ ys) ≡ xs
written_back n xs ys e = ap (λ k. take k (xs ++ ys)) (sym e) ∙ take-append_seam xs ys

-- Renamed rows: two lists whose variables rise are equal where all their coefficients are.
use Rattle.std.proofs.Common.{◌≡◌, ℕ, suc, ◌+◌, ◌<◌, ◌≤◌, List, [], ◌∷◌, Bool, true, false, nat_eq, arith, refl, sym, ◌∙◌, ap, subst}
use Rattle.std.specs.Prelude.{All, ◌&&◌, unsigned_abs, if◌then◌else◌, nat_lt, nat_le}
use Rattle.clp_model.specs.Clauses.{Row}
use Rattle.linear_model.specs.Normal.{pairs_within, is_within, limit}
use Rattle.lin_row.proofs.Quotients.{both, all_small}
use Rattle.std.specs.List.Sorted.{IsPermutation, IsNonDecreasingBy}
use Rattle.std.proofs.lemmas.List.Sorted.{sum_by-IsPermutation, All-permutation}
use Rattle.std.proofs.lemmas.List.Recursion.{is_sum_by}
use Rattle.std.proofs.Math.IntN.{ℤ, pos, negsuc, neg_ℤ, ◌+ℤ◌}
use Rattle.std.proofs.lemmas.Int.{ints}
use Rattle.std.proofs.lemmas.Bool.Decides.{nat_tests}
use Rattle.linear_model.specs.Forms.{is_zero, coefficient, Above, IsRising}
use Rattle.linear_model.specs.Changes.{renamed_pairs}
use Rattle.lin_row.specs.Rows.{VariablesRise, nonzero}
use Rattle.lin_row.specs.Renaming.{moved, runs, summed}
use Rattle.lin_row.proofs.Nonzero.{zero_is}
use Rattle.lin_row.proofs.Rising.{combined_rising, nonzero_rising, above_lower}
use Rattle.lin_row.proofs.Coefficients.{coefficient_above}
use Rattle.lin_row.proofs.Combined.{coefficient_combined}

-- ---- the coefficients of lists whose pairs are moved, left out or added
abbrev term : ℕ × ℤ → ℕ → ℤ
term p v = if nat_eq p.0 v then p.1 else pos 0

pub coefficient_nonzero : (v : ℕ) (ps : List (ℕ × ℤ)) → coefficient (nonzero ps) v ≡ coefficient ps v
coefficient_nonzero v [] = refl
coefficient_nonzero v (p ∷ ps) = by (is_zero p.1) refl (nat_eq p.0 v) (coefficient_nonzero v ps)
  where
    by : (b : Bool) → is_zero p.1 ≡ b → (c : Bool) → coefficient (nonzero ps) v ≡ coefficient ps v
        → coefficient (if b then nonzero ps else (p.0, p.1) ∷ nonzero ps) v ≡ term p v +ℤ coefficient ps v
    by true e c ih =
        let z = zero_is p.1 e in
        let t : term p v ≡ pos 0 = ap (λ x. if nat_eq p.0 v then x else pos 0) z ∙ same (nat_eq p.0 v) in
        ih ∙ omega (arith, ints)
      where
        same : (b : Bool) → (if b then pos 0 else pos 0) ≡ pos 0
        same true = refl
        same false = refl
    by false e c ih = ap (λ x. term p v +ℤ x) ih

coefficient_runs : (v : ℕ) (q : ℕ × ℤ) (ps : List (ℕ × ℤ)) → coefficient (runs q ps) v ≡ coefficient (q ∷ ps) v
coefficient_runs v q [] = refl
coefficient_runs v q (p ∷ ps) = by (λ r. coefficient_runs v r ps) (nat_eq p.0 q.0) refl
  where
    joined : (b : Bool) (x y z : ℤ) → (if b then x +ℤ y else pos 0) +ℤ z ≡ (if b then x else pos 0) +ℤ ((if b then y else pos 0) +ℤ z)
    joined true x y z = omega (arith, ints)
    joined false x y z = omega (arith, ints)

    by : ((r : ℕ × ℤ) → coefficient (runs r ps) v ≡ coefficient (r ∷ ps) v) → (b : Bool) → nat_eq p.0 q.0 ≡ b → coefficient (if b then runs (q.0, q.1 +ℤ p.1) ps else q ∷ runs p ps) v ≡ coefficient (q ∷ p ∷ ps) v
    by ih true e =
        let same : q.0 ≡ p.0 = grind (arith, nat_tests) in
        ih (q.0, q.1 +ℤ p.1)
        ∙ (joined (nat_eq q.0 v) q.1 p.1 (coefficient ps v)
        ∙ ap (λ n. term q v +ℤ ((if nat_eq n v then p.1 else pos 0) +ℤ coefficient ps v)) same)
    by ih false e = ap (λ x. term q v +ℤ x) (ih p)

coefficient_summed : (v : ℕ) (ps : List (ℕ × ℤ)) → coefficient (summed ps) v ≡ coefficient ps v
coefficient_summed v [] = refl
coefficient_summed v (p ∷ ps) = coefficient_runs v p ps

coefficient_renamed : (f : ℕ → ℕ) (v : ℕ) (ps : List (ℕ × ℤ)) → coefficient (renamed_pairs f ps) v ≡ coefficient (moved f ps) v
coefficient_renamed f v [] = refl
coefficient_renamed f v (p ∷ ps) =
    let e = coefficient_combined v (pos 1) ((f p.0, p.1) ∷ []) (pos 1) (renamed_pairs f ps) in
    let h = coefficient_renamed f v ps in
    e ∙ omega (arith, ints)

-- ---- an exchange keeps the coefficients
abbrev above_zero : ℤ → ℕ
above_zero (pos n) = n
above_zero (negsuc n) = 0

abbrev below_zero : ℤ → ℕ
below_zero (pos n) = 0
below_zero (negsuc n) = suc n

abbrev ups : ℕ → List (ℕ × ℤ) → ℕ
ups v [] = 0
ups v (p ∷ ps) = above_zero (term p v) + ups v ps

abbrev downs : ℕ → List (ℕ × ℤ) → ℕ
downs v [] = 0
downs v (p ∷ ps) = below_zero (term p v) + downs v ps

two_parts : (z : ℤ) → z ≡ pos (above_zero z) +ℤ neg_ℤ (pos (below_zero z))
two_parts (pos n) = omega (arith, ints)
two_parts (negsuc n) = omega (arith, ints)

coefficient_parts : (v : ℕ) (ps : List (ℕ × ℤ)) → coefficient ps v ≡ pos (ups v ps) +ℤ neg_ℤ (pos (downs v ps))
coefficient_parts v [] = omega (arith, ints)
coefficient_parts v (p ∷ ps) =
    let e = two_parts (term p v) in
    let h = coefficient_parts v ps in
    omega (arith, ints)

coefficient_exchanged : (v : ℕ) (ps qs : List (ℕ × ℤ)) → IsPermutation ps qs → coefficient qs v ≡ coefficient ps v
coefficient_exchanged v ps qs h =
    let up = is_sum_by (ups v) (λ p. above_zero (term p v)) refl (λ _ _. refl) in
    let down = is_sum_by (downs v) (λ p. below_zero (term p v)) refl (λ _ _. refl) in
    let e : ups v qs ≡ ups v ps = up qs ∙ (sum_by-IsPermutation (λ p. above_zero (term p v)) ps qs h ∙ sym (up ps)) in
    let f : downs v qs ≡ downs v ps = down qs ∙ (sum_by-IsPermutation (λ p. below_zero (term p v)) ps qs h ∙ sym (down ps)) in
    let a = coefficient_parts v ps in
    let b = coefficient_parts v qs in
    omega (arith, ints)

-- ---- variables rise where neighbours of one variable are one
abbrev Ordered : ℕ → List (ℕ × ℤ) → Type 0
Ordered n [] = Unit {0}
Ordered n (p ∷ ps) = (n ≤ p.0) × Ordered p.0 ps

above_runs : (n : ℕ) (q : ℕ × ℤ) (ps : List (ℕ × ℤ)) → n < q.0 → Ordered q.0 ps → Above n (runs q ps)
above_runs n q [] h o = (h, tt)
above_runs n q (p ∷ ps) h o = by (λ r. above_runs n r ps) (nat_eq p.0 q.0) refl
  where
    by : ((r : ℕ × ℤ) → n < r.0 → Ordered r.0 ps → Above n (runs r ps)) → (b : Bool) → nat_eq p.0 q.0 ≡ b → Above n (if b then runs (q.0, q.1 +ℤ p.1) ps else q ∷ runs p ps)
    by ih true e = ih (q.0, q.1 +ℤ p.1) h (subst (λ m. Ordered m ps) (let s : p.0 ≡ q.0 = grind (arith, nat_tests) in s) o.1)
    by ih false e = (h, ih p (let k = o.0 in omega arith) o.1)

runs_rise : (q : ℕ × ℤ) (ps : List (ℕ × ℤ)) → Ordered q.0 ps → VariablesRise (runs q ps)
runs_rise q [] o = (tt, tt)
runs_rise q (p ∷ ps) o = by (λ r. runs_rise r ps) (nat_eq p.0 q.0) refl
  where
    by : ((r : ℕ × ℤ) → Ordered r.0 ps → VariablesRise (runs r ps)) → (b : Bool) → nat_eq p.0 q.0 ≡ b → VariablesRise (if b then runs (q.0, q.1 +ℤ p.1) ps else q ∷ runs p ps)
    by ih true e = ih (q.0, q.1 +ℤ p.1) (subst (λ m. Ordered m ps) (let s : p.0 ≡ q.0 = grind (arith, nat_tests) in s) o.1)
    by ih false e =
        let k = o.0 in
        let l : q.0 < p.0 = grind (arith, nat_tests) in
        (above_runs q.0 p ps l o.1, ih p o.1)

-- ---- two lists whose variables rise
coefficient_here : (p : ℕ × ℤ) (ps : List (ℕ × ℤ)) → IsRising (p ∷ ps) → coefficient (p ∷ ps) p.0 ≡ p.1
coefficient_here p ps r =
    let t : nat_eq p.0 p.0 ≡ true = grind (arith, nat_tests) in
    let z = coefficient_above p.0 p.0 ps (omega arith) r.1 in
    ap (λ b. (if b then p.1 else pos 0) +ℤ coefficient ps p.0) t ∙ omega (arith, ints)

-- a list whose first variable is past v has another coefficient there than one that begins with v
apart : (p : ℕ × ℤ) (ps qs : List (ℕ × ℤ)) → IsRising (p ∷ ps) → Above p.0 qs → coefficient (p ∷ ps) p.0 ≡ coefficient qs p.0 → ⊥
apart p ps qs r a e =
    let z : p.1 ≡ pos 0 = sym (coefficient_here p ps r) ∙ (e ∙ coefficient_above p.0 p.0 qs (omega arith) a) in
    let n = r.0 in
    let m = ap is_zero z in
    cc

pub rising_same : (ps qs : List (ℕ × ℤ)) → IsRising ps → IsRising qs → ((v : ℕ) → coefficient ps v ≡ coefficient qs v) → ps ≡ qs
rising_same [] [] r s e = refl
rising_same [] (q ∷ qs) r s e = absurd (apart q qs [] s tt (sym (e q.0)))
rising_same (p ∷ ps) [] r s e = absurd (apart p ps [] r tt (e p.0))
rising_same (p ∷ ps) (q ∷ qs) r s e = by (rising_same ps qs r.2 s.2) (nat_lt p.0 q.0) refl (nat_lt q.0 p.0) refl
  where
    by : (((v : ℕ) → coefficient ps v ≡ coefficient qs v) → ps ≡ qs) → (a : Bool) → nat_lt p.0 q.0 ≡ a → (b : Bool) → nat_lt q.0 p.0 ≡ b → p ∷ ps ≡ q ∷ qs
    by ih true f b g =
        let l : p.0 < q.0 = grind (arith, nat_tests) in
        absurd (apart p ps (q ∷ qs) r (l, above_lower p.0 q.0 qs (omega arith) s.1) (e p.0))
    by ih false f true g =
        let l : q.0 < p.0 = grind (arith, nat_tests) in
        absurd (apart q qs (p ∷ ps) s (l, above_lower q.0 p.0 ps (omega arith) r.1) (sym (e q.0)))
    by ih false f false g =
        let v : p.0 ≡ q.0 = grind (arith, nat_tests) in
        let c : p.1 ≡ q.1 = sym (coefficient_here p ps r) ∙ (e p.0 ∙ (ap (coefficient (q ∷ qs)) v ∙ coefficient_here q qs s)) in
        let rest : (w : ℕ) → coefficient ps w ≡ coefficient qs w = λ w.
        (let h = e w in
        let t : term p w ≡ term q w = ap (λ n. if nat_eq n w then p.1 else pos 0) v ∙ ap (λ x. if nat_eq q.0 w then x else pos 0) c in
        omega (arith, ints)) in
        let one : ℕ → List (ℕ × ℤ) = λ n. (n, p.1) ∷ ps in
        let two : ℤ → List (ℕ × ℤ) = λ x. (q.0, x) ∷ ps in
        let three : List (ℕ × ℤ) → List (ℕ × ℤ) = λ xs. q ∷ xs in
        ap one v ∙ (ap two c ∙ ap three (ih rest))

pub renamed_rising : (f : ℕ → ℕ) (ps : List (ℕ × ℤ)) → IsRising ps → IsRising (renamed_pairs f ps)
renamed_rising f [] r = tt
renamed_rising f (p ∷ ps) r = combined_rising (pos 1) ((f p.0, p.1) ∷ []) (pos 1) (renamed_pairs f ps) (r.0, tt, tt) (renamed_rising f ps r.2)

ordered_after : (p : ℕ × ℤ) (ps : List (ℕ × ℤ)) → IsNonDecreasingBy (λ (p : ℕ × ℤ). p.0) (p ∷ ps) → Ordered p.0 ps
ordered_after p [] h = tt
ordered_after p (q ∷ qs) h =
    (h 0 1 p (omega arith) (omega arith), ordered_after q qs (λ i j d a b. h (suc i) (suc j) d (omega arith) (omega arith)))

pub summed_rise : (ps : List (ℕ × ℤ)) → IsNonDecreasingBy (λ (p : ℕ × ℤ). p.0) ps → VariablesRise (summed ps)
summed_rise [] h = tt
summed_rise (p ∷ ps) h = runs_rise p ps (ordered_after p ps h)

-- what the code makes is what the definition says
pub renamed_is : (f : ℕ → ℕ) (ps entries sorted : List (ℕ × ℤ)) → IsRising ps → entries ≡ moved f ps → IsPermutation entries sorted → IsNonDecreasingBy (λ (p : ℕ × ℤ). p.0) sorted
    → nonzero (summed sorted) ≡ renamed_pairs f ps
renamed_is f ps entries sorted r e x h =
    rising_same (nonzero (summed sorted)) (renamed_pairs f ps) (nonzero_rising (summed sorted) (summed_rise sorted h)) (renamed_rising f ps r) (λ v.
    coefficient_nonzero v (summed sorted)
    ∙ (coefficient_summed v sorted ∙ (coefficient_exchanged v entries sorted x ∙ (ap (λ xs. coefficient xs v) e ∙ sym (coefficient_renamed f v ps)))))

within_moved : (f : ℕ → ℕ) (ps : List (ℕ × ℤ)) → pairs_within (moved f ps) ≡ pairs_within ps
within_moved f [] = refl
within_moved f (p ∷ ps) = ap (λ b. nat_le (unsigned_abs p.1) limit && b) (within_moved f ps)

pub moved_small : (f : ℕ → ℕ) (r : Row) (entries sorted now : List (ℕ × ℤ)) → is_within r ≡ true → entries ≡ moved f r.pairs → IsPermutation entries sorted → now ≡ sorted
    → All (λ p. unsigned_abs p.1 ≤ limit) now
moved_small f r entries sorted now w e x g =
    let small : (ℕ × ℤ) → Type 0 = λ p. unsigned_abs p.1 ≤ limit in
    let a = both (pairs_within r.pairs) (nat_le (unsigned_abs r.constant) limit) w in
    let b : All small (moved f r.pairs) = all_small (moved f r.pairs) (within_moved f r.pairs ∙ a.0) in
    subst (All small) (sym g) (All-permutation small entries sorted x (subst (All small) (sym e) b))

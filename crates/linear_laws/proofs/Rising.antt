-- Lists of pairs with rising variables and no coefficient 0.
use Rattle.std.proofs.Common.{◌≡◌, ℕ, ◌<◌, List, [], ◌∷◌, Bool, true, false, arith, refl, sym, ap, subst, eq-eqb}
use Rattle.std.specs.Prelude.{nat_eq, nat_lt, if◌then◌else◌}
use Rattle.std.proofs.Math.IntN.{ℤ, pos, ◌+ℤ◌, ◌*ℤ◌}
use Rattle.std.proofs.lemmas.Int.{ints}
use Rattle.std.proofs.lemmas.Bool.{ltb-true, ltb-false, eqb-true}
use Rattle.linear_model.specs.Forms.{Above, IsRising, is_zero, coefficient, with_pair, scaled, merged, combined}

pub above_less : (m n : ℕ) (ps : List (ℕ × ℤ)) → m < n → Above n ps → Above m ps
above_less m n [] h a = tt
above_less m n (p ∷ ps) h a = let b = a.0 in (omega arith, above_less m n ps h a.1)

pub above_with : (n v : ℕ) (c : ℤ) (ps : List (ℕ × ℤ)) → n < v → Above n ps → Above n (with_pair v c ps)
above_with n v c ps h a = by (is_zero c)
  where
    by : (b : Bool) → Above n (if b then ps else (v, c) ∷ ps)
    by true = a
    by false = (h, a)

pub rising_with : (v : ℕ) (c : ℤ) (ps : List (ℕ × ℤ)) → Above v ps → IsRising ps → IsRising (with_pair v c ps)
rising_with v c ps a r = by (is_zero c) refl
  where
    by : (b : Bool) → is_zero c ≡ b → IsRising (if b then ps else (v, c) ∷ ps)
    by true e = r
    by false e = (e, a, r)

pub above_scaled : (n : ℕ) (b : ℤ) (qs : List (ℕ × ℤ)) → Above n qs → Above n (scaled b qs)
above_scaled n b [] a = tt
above_scaled n b (q ∷ qs) a = above_with n q.0 (b *ℤ q.1) (scaled b qs) a.0 (above_scaled n b qs a.1)

above_merged : (n : ℕ) (a : ℤ) (p : ℕ × ℤ) (ps : List (ℕ × ℤ)) (rest : List (ℕ × ℤ) → List (ℕ × ℤ)) (b : ℤ) → n < p.0
    → ((qs : List (ℕ × ℤ)) → Above n qs → Above n (rest qs)) → (qs : List (ℕ × ℤ)) → Above n qs → Above n (merged a p rest b qs)
above_merged n a p ps rest b h r [] k = above_with n p.0 (a *ℤ p.1) (rest []) h (r [] tt)
above_merged n a p ps rest b h r (q ∷ qs) k = by (above_merged n a p ps rest b h r qs k.1) (nat_lt p.0 q.0) (nat_lt q.0 p.0)
  where
    by : Above n (merged a p rest b qs) → (s t : Bool)
        → Above n (if s then with_pair p.0 (a *ℤ p.1) (rest (q ∷ qs)) else if t then with_pair q.0 (b *ℤ q.1) (merged a p rest b qs) else with_pair p.0 (a *ℤ p.1 +ℤ b *ℤ q.1) (rest qs))
    by ih true t = above_with n p.0 (a *ℤ p.1) (rest (q ∷ qs)) h (r (q ∷ qs) k)
    by ih false true = above_with n q.0 (b *ℤ q.1) (merged a p rest b qs) k.0 ih
    by ih false false = above_with n p.0 (a *ℤ p.1 +ℤ b *ℤ q.1) (rest qs) h (r qs k.1)

pub above_combined : (n : ℕ) (a : ℤ) (ps : List (ℕ × ℤ)) (b : ℤ) (qs : List (ℕ × ℤ)) → Above n ps → Above n qs → Above n (combined a ps b qs)
above_combined n a [] b qs h k = above_scaled n b qs k
above_combined n a (p ∷ ps) b qs h k = above_merged n a p ps (combined a ps b) b h.0 (λ qs k. above_combined n a ps b qs h.1 k) qs k

pub rising_scaled : (b : ℤ) (qs : List (ℕ × ℤ)) → IsRising qs → IsRising (scaled b qs)
rising_scaled b [] r = tt
rising_scaled b (q ∷ qs) r = rising_with q.0 (b *ℤ q.1) (scaled b qs) (above_scaled q.0 b qs r.1) (rising_scaled b qs r.2)

module _ (a : ℤ) (p : ℕ × ℤ) (ps : List (ℕ × ℤ)) (b : ℤ) (up : Above p.0 ps) (ih : (qs : List (ℕ × ℤ)) → IsRising qs → IsRising (combined a ps b qs)) where
  rising_merged : (qs : List (ℕ × ℤ)) → IsRising qs → IsRising (merged a p (combined a ps b) b qs)
  rising_merged [] r = rising_with p.0 (a *ℤ p.1) (combined a ps b []) (above_combined p.0 a ps b [] up tt) (ih [] tt)
  rising_merged (q ∷ qs) r = by (rising_merged qs r.2) (nat_lt p.0 q.0) (nat_lt q.0 p.0) refl refl
    where
      by : IsRising (merged a p (combined a ps b) b qs) → (s t : Bool) → nat_lt p.0 q.0 ≡ s → nat_lt q.0 p.0 ≡ t
          → IsRising (if s then with_pair p.0 (a *ℤ p.1) (combined a ps b (q ∷ qs)) else if t then with_pair q.0 (b *ℤ q.1) (merged a p (combined a ps b) b qs) else with_pair p.0 (a *ℤ p.1 +ℤ b *ℤ q.1) (combined a ps b qs))
      by j true t e f =
          let l = ltb-true p.0 q.0 e in
          rising_with p.0 (a *ℤ p.1) (combined a ps b (q ∷ qs)) (above_combined p.0 a ps b (q ∷ qs) up (l, above_less p.0 q.0 qs l r.1)) (ih (q ∷ qs) r)
      by j false true e f =
          let l = ltb-true q.0 p.0 f in
          rising_with q.0 (b *ℤ q.1) (merged a p (combined a ps b) b qs)
          (above_merged q.0 a p ps (combined a ps b) b l (λ rs k. above_combined q.0 a ps b rs (above_less q.0 p.0 ps l up) k) qs r.1) j
      by j false false e f =
          let l = ltb-false p.0 q.0 e in
          let m = ltb-false q.0 p.0 f in
          let same : p.0 ≡ q.0 = omega arith in
          rising_with p.0 (a *ℤ p.1 +ℤ b *ℤ q.1) (combined a ps b qs) (above_combined p.0 a ps b qs up (subst (λ n. Above n qs) (sym same) r.1)) (ih qs r.2)

pub rising_combined : (a : ℤ) (ps : List (ℕ × ℤ)) (b : ℤ) (qs : List (ℕ × ℤ)) → IsRising ps → IsRising qs → IsRising (combined a ps b qs)
rising_combined a [] b qs r s = rising_scaled b qs s
rising_combined a (p ∷ ps) b qs r s = rising_merged a p ps b r.1 (λ qs k. rising_combined a ps b qs r.2 k) qs s

-- one pair, whose coefficient may be 0, and a rising list
pub rising_onto : (a : ℤ) (p : ℕ × ℤ) (b : ℤ) (qs : List (ℕ × ℤ)) → IsRising qs → IsRising (combined a (p ∷ []) b qs)
rising_onto a p b qs r = rising_merged a p [] b tt (λ rs k. rising_scaled b rs k) qs r

-- ---- a rising list without coefficients is empty
pub absent : (n : ℕ) (ps : List (ℕ × ℤ)) → Above n ps → coefficient ps n ≡ pos 0
absent n [] a = refl
absent n (p ∷ ps) a = by (absent n ps a.1) (nat_eq p.0 n) refl
  where
    by : coefficient ps n ≡ pos 0 → (b : Bool) → nat_eq p.0 n ≡ b → (if b then p.1 else pos 0) +ℤ coefficient ps n ≡ pos 0
    by i true e = let k = eqb-true p.0 n e in let j = a.0 in absurd (omega arith)
    by i false e = omega (arith, ints)

pub nothing_left : (ps : List (ℕ × ℤ)) → IsRising ps → ((v : ℕ) → coefficient ps v ≡ pos 0) → ps ≡ []
nothing_left [] r h = refl
nothing_left (p ∷ ps) r h =
    let e = eq-eqb p.0 p.0 refl in
    let i : (if nat_eq p.0 p.0 then p.1 else pos 0) ≡ p.1 = ap (λ b. if b then p.1 else pos 0) e in
    let j = absent p.0 ps r.1 in
    let k = h p.0 in
    let z : p.1 ≡ pos 0 = omega (arith, ints) in
    absurd (let f : is_zero p.1 ≡ true = ap is_zero z in let g = r.0 in cc)

-- ---- the first pair has the least variable
pub first_coefficient : (p : ℕ × ℤ) (ps : List (ℕ × ℤ)) → IsRising (p ∷ ps) → coefficient (p ∷ ps) p.0 ≡ p.1
first_coefficient p ps r =
    let e = eq-eqb p.0 p.0 refl in
    let i : (if nat_eq p.0 p.0 then p.1 else pos 0) ≡ p.1 = ap (λ b. if b then p.1 else pos 0) e in
    let j = absent p.0 ps r.1 in
    omega (arith, ints)

pub none_below : (n v : ℕ) (ps : List (ℕ × ℤ)) → v < n → Above n ps → coefficient ps v ≡ pos 0
none_below n v ps h a = absent v ps (above_less v n ps h a)

pub first_is_least : (p : ℕ × ℤ) (ps : List (ℕ × ℤ)) (v : ℕ) → IsRising (p ∷ ps) → v < p.0 → coefficient (p ∷ ps) v ≡ pos 0
first_is_least p ps v r h = absent v (p ∷ ps) (h, above_less v p.0 ps h r.1)

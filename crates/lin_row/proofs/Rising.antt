-- Lists of pairs whose variables rise.
use Rattle.std.proofs.Common.{◌≡◌, ℕ, ◌<◌, ◌≤◌, List, [], ◌∷◌, Bool, true, false, arith, refl, ap}
use Rattle.std.specs.Prelude.{nat_lt, if◌then◌else◌}
use Rattle.std.proofs.Math.IntN.{ℤ, ◌+ℤ◌, ◌*ℤ◌}
use Rattle.std.proofs.lemmas.Bool.Decides.{nat_tests}
use Rattle.linear_model.specs.Forms.{is_zero, with_pair, scaled, merged, combined, Above, IsRising}
use Rattle.lin_row.specs.Rows.{VariablesRise, nonzero}

above_with : (n v : ℕ) (c : ℤ) (rest : List (ℕ × ℤ)) → n < v → Above n rest → Above n (with_pair v c rest)
above_with n v c rest h a = by (is_zero c)
  where
    by : (b : Bool) → Above n (if b then rest else (v, c) ∷ rest)
    by true = a
    by false = (h, a)

rising_with : (v : ℕ) (c : ℤ) (rest : List (ℕ × ℤ)) → Above v rest → IsRising rest → IsRising (with_pair v c rest)
rising_with v c rest a r = by (is_zero c) refl
  where
    by : (b : Bool) → is_zero c ≡ b → IsRising (if b then rest else (v, c) ∷ rest)
    by true e = r
    by false e = (e, a, r)

pub above_lower : (m n : ℕ) (ps : List (ℕ × ℤ)) → m ≤ n → Above n ps → Above m ps
above_lower m n [] h a = tt
above_lower m n (p ∷ ps) h a = (let k = a.0 in omega arith, above_lower m n ps h a.1)

-- ---- pairs whose coefficient is not 0
above_nonzero : (n : ℕ) (ps : List (ℕ × ℤ)) → Above n ps → Above n (nonzero ps)
above_nonzero n [] a = tt
above_nonzero n (p ∷ ps) a = above_with n p.0 p.1 (nonzero ps) a.0 (above_nonzero n ps a.1)

pub nonzero_rising : (ps : List (ℕ × ℤ)) → VariablesRise ps → IsRising (nonzero ps)
nonzero_rising [] r = tt
nonzero_rising (p ∷ ps) r = rising_with p.0 p.1 (nonzero ps) (above_nonzero p.0 ps r.0) (nonzero_rising ps r.1)

pub nonzero_same : (ps : List (ℕ × ℤ)) → IsRising ps → nonzero ps ≡ ps
nonzero_same [] r = refl
nonzero_same (p ∷ ps) r = by (is_zero p.1) r.0 (nonzero_same ps r.2)
  where
    by : (b : Bool) → b ≡ false → nonzero ps ≡ ps → (if b then nonzero ps else (p.0, p.1) ∷ nonzero ps) ≡ p ∷ ps
    by true e ih = cc
    by false e ih = ap (λ xs. p ∷ xs) ih

-- ---- combinations
above_scaled : (n : ℕ) (b : ℤ) (qs : List (ℕ × ℤ)) → Above n qs → Above n (scaled b qs)
above_scaled n b [] a = tt
above_scaled n b (q ∷ qs) a = above_with n q.0 (b *ℤ q.1) (scaled b qs) a.0 (above_scaled n b qs a.1)

rising_scaled : (b : ℤ) (qs : List (ℕ × ℤ)) → IsRising qs → IsRising (scaled b qs)
rising_scaled b [] r = tt
rising_scaled b (q ∷ qs) r = rising_with q.0 (b *ℤ q.1) (scaled b qs) (above_scaled q.0 b qs r.1) (rising_scaled b qs r.2)

module _ (a : ℤ) (p : ℕ × ℤ) (rest : List (ℕ × ℤ) → List (ℕ × ℤ)) (b : ℤ) where
  above_merged : (n : ℕ) → n < p.0 → ((qs : List (ℕ × ℤ)) → Above n qs → Above n (rest qs)) → (qs : List (ℕ × ℤ)) → Above n qs → Above n (merged a p rest b qs)
  above_merged n h f [] g = above_with n p.0 (a *ℤ p.1) (rest []) h (f [] tt)
  above_merged n h f (q ∷ qs) g = by (above_merged n h f qs g.1) (nat_lt p.0 q.0) (nat_lt q.0 p.0)
    where
      by : Above n (merged a p rest b qs) → (s t : Bool)
          → Above n (if s then with_pair p.0 (a *ℤ p.1) (rest (q ∷ qs)) else if t then with_pair q.0 (b *ℤ q.1) (merged a p rest b qs) else with_pair p.0 (a *ℤ p.1 +ℤ b *ℤ q.1) (rest qs))
      by ih true t = above_with n p.0 (a *ℤ p.1) (rest (q ∷ qs)) h (f (q ∷ qs) g)
      by ih false true = above_with n q.0 (b *ℤ q.1) (merged a p rest b qs) g.0 ih
      by ih false false = above_with n p.0 (a *ℤ p.1 +ℤ b *ℤ q.1) (rest qs) h (f qs g.1)

  rising_merged : ((n : ℕ) → n ≤ p.0 → (qs : List (ℕ × ℤ)) → Above n qs → Above n (rest qs)) → ((qs : List (ℕ × ℤ)) → IsRising qs → IsRising (rest qs))
      → (qs : List (ℕ × ℤ)) → IsRising qs → IsRising (merged a p rest b qs)
  rising_merged f g [] r = rising_with p.0 (a *ℤ p.1) (rest []) (f p.0 (omega arith) [] tt) (g [] tt)
  rising_merged f g (q ∷ qs) r = by (rising_merged f g qs r.2) (nat_lt p.0 q.0) refl (nat_lt q.0 p.0) refl
    where
      by : IsRising (merged a p rest b qs) → (s : Bool) → nat_lt p.0 q.0 ≡ s → (t : Bool) → nat_lt q.0 p.0 ≡ t
          → IsRising (if s then with_pair p.0 (a *ℤ p.1) (rest (q ∷ qs)) else if t then with_pair q.0 (b *ℤ q.1) (merged a p rest b qs) else with_pair p.0 (a *ℤ p.1 +ℤ b *ℤ q.1) (rest qs))
      by ih true e t k =
          let h : p.0 < q.0 = grind (arith, nat_tests) in
          rising_with p.0 (a *ℤ p.1) (rest (q ∷ qs)) (f p.0 (omega arith) (q ∷ qs) (h, above_lower p.0 q.0 qs (omega arith) r.1)) (g (q ∷ qs) r)
      by ih false e true k =
          let h : q.0 < p.0 = grind (arith, nat_tests) in
          rising_with q.0 (b *ℤ q.1) (merged a p rest b qs) (above_merged q.0 h (f q.0 (omega arith)) qs r.1) ih
      by ih false e false k =
          let h : p.0 ≤ q.0 = grind (arith, nat_tests) in
          rising_with p.0 (a *ℤ p.1 +ℤ b *ℤ q.1) (rest qs) (f p.0 (omega arith) qs (above_lower p.0 q.0 qs h r.1)) (g qs r.2)

pub above_combined : (n : ℕ) (a : ℤ) (ps : List (ℕ × ℤ)) (b : ℤ) (qs : List (ℕ × ℤ)) → Above n ps → Above n qs → Above n (combined a ps b qs)
above_combined n a [] b qs g h = above_scaled n b qs h
above_combined n a (p ∷ ps) b qs g h = above_merged a p (combined a ps b) b n g.0 (λ rs. above_combined n a ps b rs g.1) qs h

pub combined_rising : (a : ℤ) (ps : List (ℕ × ℤ)) (b : ℤ) (qs : List (ℕ × ℤ)) → IsRising ps → IsRising qs → IsRising (combined a ps b qs)
combined_rising a [] b qs r s = rising_scaled b qs s
combined_rising a (p ∷ ps) b qs r s =
    rising_merged a p (combined a ps b) b
    (λ n h rs. above_combined n a ps b rs (above_lower n p.0 ps h r.1))
    (λ rs. combined_rising a ps b rs r.2)
    qs s

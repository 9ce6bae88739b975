-- The numbers at all places, of which only those that are not 0 are kept.
use Rattle.std.proofs.Common.{◌≡◌, ℕ, zero, suc, ◌+◌, ◌<◌, ◌≤◌, ◌/◌, List, [], ◌∷◌, Bool, true, false, ◌&&◌, arith, refl, sym, ◌∙◌, ap, subst}
use Rattle.std.specs.Prelude.{⊤, nat_eq, nat_le, nat_lt, unsigned_abs, int_div, if◌then◌else◌}
use Rattle.std.proofs.Math.IntN.{ℤ, pos, ◌+ℤ◌, ◌*ℤ◌}
use Rattle.std.proofs.lemmas.Int.{ints}
use Rattle.std.proofs.lemmas.Bool.{eqb-true}
use Rattle.std.proofs.lemmas.Bool.Decides.{nat_tests}
use Rattle.linear_model.specs.Forms.{Above, IsRising, coefficient, is_zero, with_pair, scaled, merged, combined}
use Rattle.linear_model.specs.Gcd.{gcd}
use Rattle.linear_model.specs.Normal.{joint_gcd, divided_pairs}
use Rattle.linear_model.specs.Items.{weights, weights_gcd, divided_weights}
use Rattle.linear_model.specs.Chain.{weights_within, multiplier_limit}
use Rattle.linear_laws.proofs.Sums.{coefficient_combined}
use Rattle.linear_laws.proofs.Rising.{absent, first_coefficient, first_is_least}
use Rattle.linear_laws.proofs.Divided.{above_divided}
use Rattle.chain_items.specs.Sparse.{spread, at_most, Below}
use Rattle.chain_items.proofs.Merging.{gcd_of_zero}

-- ---- combinations
pub spread_weights : (a : ℤ) (ws : List (ℕ × ℤ)) (b : ℤ) (vs : List (ℕ × ℤ)) (i n : ℕ) → weights a (spread i n ws) b (spread i n vs) ≡ spread i n (combined a ws b vs)
spread_weights a ws b vs i zero = refl
spread_weights a ws b vs i (suc n) =
    ap (λ z. z ∷ weights a (spread (i + 1) n ws) b (spread (i + 1) n vs)) (sym (coefficient_combined i a ws b vs))
    ∙ ap (λ zs. coefficient (combined a ws b vs) i ∷ zs) (spread_weights a ws b vs (i + 1) n)

-- ---- a list that is read from its first place on
abbrev from_is : ℕ → List (ℕ × ℤ) → Type 0
from_is i [] = ⊤
from_is i (p ∷ ps) = i ≤ p.0

above_from : (n : ℕ) (ps : List (ℕ × ℤ)) → Above n ps → from_is (n + 1) ps
above_from n [] a = tt
above_from n (p ∷ ps) a = let h = a.0 in omega arith

add_zero : (z : ℤ) → pos 0 +ℤ z ≡ z
add_zero z = omega (arith, ints)

not_same : (m n : ℕ) → m < n → nat_eq m n ≡ false
not_same m n h = grind (arith, nat_tests)

passed : (p : ℕ × ℤ) (ps : List (ℕ × ℤ)) (j n : ℕ) → p.0 < j → spread j n (p ∷ ps) ≡ spread j n ps
passed p ps j zero h = refl
passed p ps j (suc n) h =
    let e : coefficient (p ∷ ps) j ≡ coefficient ps j = ap (λ b. (if b then p.1 else pos 0) +ℤ coefficient ps j) (not_same p.0 j h) ∙ add_zero (coefficient ps j) in
    ap (λ z. z ∷ spread (j + 1) n (p ∷ ps)) e ∙ ap (λ zs. coefficient ps j ∷ zs) (passed p ps (j + 1) n (omega arith))

-- what holds of nothing, and stays where a 0 comes or a pair comes, holds of a list and of the numbers at its places
module _ (P : List ℤ → List (ℕ × ℤ) → Type 0) (at_end : P [] []) (at_zero : (ms : List ℤ) (ws : List (ℕ × ℤ)) → P ms ws → P (pos 0 ∷ ms) ws)
    (at_pair : (ms : List ℤ) (p : ℕ × ℤ) (ws : List (ℕ × ℤ)) → P ms ws → P (p.1 ∷ ms) (p ∷ ws)) where
  spread_all : (i n : ℕ) (ws : List (ℕ × ℤ)) → IsRising ws → from_is i ws → Below (i + n) ws → P (spread i n ws) ws
  spread_all i zero [] r f b = at_end
  spread_all i zero (p ∷ ps) r f b = let k = b.0 in absurd (omega arith)
  spread_all i (suc n) [] r f b = at_zero (spread (i + 1) n []) [] (spread_all (i + 1) n [] tt tt tt)
  spread_all i (suc n) (p ∷ ps) r f b = by (λ g k. spread_all (i + 1) n ps r.2 g k) (λ g k. spread_all (i + 1) n (p ∷ ps) r g k) (nat_eq p.0 i) refl
    where
      more : i + suc n ≡ (i + 1) + n
      more = omega arith

      by : (from_is (i + 1) ps → Below ((i + 1) + n) ps → P (spread (i + 1) n ps) ps) → (from_is (i + 1) (p ∷ ps) → Below ((i + 1) + n) (p ∷ ps) → P (spread (i + 1) n (p ∷ ps)) (p ∷ ps))
          → (t : Bool) → nat_eq p.0 i ≡ t → P (coefficient (p ∷ ps) i ∷ spread (i + 1) n (p ∷ ps)) (p ∷ ps)
      by rest same true e =
          let k : p.0 ≡ i = eqb-true p.0 i e in
          let c : coefficient (p ∷ ps) i ≡ p.1 = ap (coefficient (p ∷ ps)) (sym k) ∙ first_coefficient p ps r in
          let s : spread (i + 1) n (p ∷ ps) ≡ spread (i + 1) n ps = passed p ps (i + 1) n (omega arith) in
          let f : from_is (i + 1) ps = subst (λ m. from_is (m + 1) ps) k (above_from p.0 ps r.1) in
          let ih = rest f (subst (λ m. Below m ps) more b.1) in
          subst (λ z. P (z ∷ spread (i + 1) n (p ∷ ps)) (p ∷ ps)) (sym c) (subst (λ zs. P (p.1 ∷ zs) (p ∷ ps)) (sym s) (at_pair (spread (i + 1) n ps) p ps ih))
      by rest same false e =
          let k : i < p.0 = grind (arith, nat_tests) in
          let c : coefficient (p ∷ ps) i ≡ pos 0 = first_is_least p ps i r k in
          let g : i + 1 ≤ p.0 = omega arith in
          let ih = same g (subst (λ m. Below m (p ∷ ps)) more b) in
          subst (λ z. P (z ∷ spread (i + 1) n (p ∷ ps)) (p ∷ ps)) (sym c) (at_zero (spread (i + 1) n (p ∷ ps)) (p ∷ ps) ih)

  pub spread_whole : (n : ℕ) (ws : List (ℕ × ℤ)) → IsRising ws → Below n ws → P (spread 0 n ws) ws
  spread_whole n ws r b = spread_all 0 n ws r (first ws) (subst (λ m. Below m ws) (zero_more n) b)
    where
      first : (ws : List (ℕ × ℤ)) → from_is 0 ws
      first [] = tt
      first (p ∷ ps) = omega arith

      zero_more : (n : ℕ) → n ≡ 0 + n
      zero_more n = omega arith

abbrev SameDivisor : List ℤ → List (ℕ × ℤ) → Type 0
SameDivisor ms ws = (g : ℕ) → weights_gcd g ms ≡ joint_gcd g ws

pub spread_divisor : (g n : ℕ) (ws : List (ℕ × ℤ)) → IsRising ws → Below n ws → weights_gcd g (spread 0 n ws) ≡ joint_gcd g ws
spread_divisor g n ws r b =
    spread_whole SameDivisor (λ g. refl) (λ ms ws h g. ap (λ d. weights_gcd d ms) (gcd_of_zero g) ∙ h g) (λ ms p ws h g. h (gcd (unsigned_abs p.1) g)) n ws r b g

abbrev SameRange : List ℤ → List (ℕ × ℤ) → Type 0
SameRange ms ws = weights_within ms ≡ at_most multiplier_limit ws

pub spread_within : (n : ℕ) (ws : List (ℕ × ℤ)) → IsRising ws → Below n ws → weights_within (spread 0 n ws) ≡ at_most multiplier_limit ws
spread_within n ws r b =
    spread_whole SameRange refl (λ ms ws h. h) (λ ms p ws h. ap (λ t. nat_le (unsigned_abs p.1) multiplier_limit && t) h) n ws r b

-- ---- quotients
zero_over : (d : ℕ) → 0 / suc d ≡ 0
zero_over d = omega arith

zero_quotient : (d : ℕ) → int_div (pos 0) (pos d) ≡ pos 0
zero_quotient zero = refl
zero_quotient (suc d) = ap pos (zero_over d)

zero_added : (z : ℤ) → z +ℤ pos 0 ≡ z
zero_added z = omega (arith, ints)

coefficient_quotient : (d v : ℕ) (ws : List (ℕ × ℤ)) → IsRising ws → coefficient (divided_pairs (pos d) ws) v ≡ int_div (coefficient ws v) (pos d)
coefficient_quotient d v [] r = sym (zero_quotient d)
coefficient_quotient d v (p ∷ ps) r = by (nat_eq p.0 v) refl (coefficient_quotient d v ps r.2)
  where
    by : (b : Bool) → nat_eq p.0 v ≡ b → coefficient (divided_pairs (pos d) ps) v ≡ int_div (coefficient ps v) (pos d)
        → (if b then int_div p.1 (pos d) else pos 0) +ℤ coefficient (divided_pairs (pos d) ps) v ≡ int_div ((if b then p.1 else pos 0) +ℤ coefficient ps v) (pos d)
    by true e ih =
        let k : p.0 ≡ v = eqb-true p.0 v e in
        let a : coefficient ps v ≡ pos 0 = ap (coefficient ps) (sym k) ∙ absent p.0 ps r.1 in
        let b : coefficient (divided_pairs (pos d) ps) v ≡ pos 0 = ap (coefficient (divided_pairs (pos d) ps)) (sym k) ∙ absent p.0 (divided_pairs (pos d) ps) (above_divided (pos d) p.0 ps r.1) in
        ap (λ z. int_div p.1 (pos d) +ℤ z) b ∙ (zero_added (int_div p.1 (pos d)) ∙ sym (ap (λ z. int_div (p.1 +ℤ z) (pos d)) a ∙ ap (λ z. int_div z (pos d)) (zero_added p.1)))
    by false e ih = add_zero (coefficient (divided_pairs (pos d) ps) v) ∙ (ih ∙ sym (ap (λ z. int_div z (pos d)) (add_zero (coefficient ps v))))

pub spread_quotients : (d i n : ℕ) (ws : List (ℕ × ℤ)) → IsRising ws → divided_weights (pos d) (spread i n ws) ≡ spread i n (divided_pairs (pos d) ws)
spread_quotients d i zero ws r = refl
spread_quotients d i (suc n) ws r =
    ap (λ z. z ∷ divided_weights (pos d) (spread (i + 1) n ws)) (sym (coefficient_quotient d i ws r))
    ∙ ap (λ zs. coefficient (divided_pairs (pos d) ws) i ∷ zs) (spread_quotients d (i + 1) n ws r)

-- ---- places
below_with : (n v : ℕ) (c : ℤ) (ps : List (ℕ × ℤ)) → v < n → Below n ps → Below n (with_pair v c ps)
below_with n v c ps h b = by (is_zero c)
  where
    by : (t : Bool) → Below n (if t then ps else (v, c) ∷ ps)
    by true = b
    by false = (h, b)

below_scaled : (n : ℕ) (b : ℤ) (qs : List (ℕ × ℤ)) → Below n qs → Below n (scaled b qs)
below_scaled n b [] k = tt
below_scaled n b (q ∷ qs) k = below_with n q.0 (b *ℤ q.1) (scaled b qs) k.0 (below_scaled n b qs k.1)

module _ (n : ℕ) (a : ℤ) (p : ℕ × ℤ) (rest : List (ℕ × ℤ) → List (ℕ × ℤ)) (b : ℤ) (h : p.0 < n) (r : (qs : List (ℕ × ℤ)) → Below n qs → Below n (rest qs)) where
  below_merged : (qs : List (ℕ × ℤ)) → Below n qs → Below n (merged a p rest b qs)
  below_merged [] k = below_with n p.0 (a *ℤ p.1) (rest []) h (r [] tt)
  below_merged (q ∷ qs) k = by (below_merged qs k.1) (nat_lt p.0 q.0) (nat_lt q.0 p.0)
    where
      by : Below n (merged a p rest b qs) → (s t : Bool)
          → Below n (if s then with_pair p.0 (a *ℤ p.1) (rest (q ∷ qs)) else if t then with_pair q.0 (b *ℤ q.1) (merged a p rest b qs) else with_pair p.0 (a *ℤ p.1 +ℤ b *ℤ q.1) (rest qs))
      by ih true t = below_with n p.0 (a *ℤ p.1) (rest (q ∷ qs)) h (r (q ∷ qs) k)
      by ih false true = below_with n q.0 (b *ℤ q.1) (merged a p rest b qs) k.0 ih
      by ih false false = below_with n p.0 (a *ℤ p.1 +ℤ b *ℤ q.1) (rest qs) h (r qs k.1)

pub below_combined : (n : ℕ) (a : ℤ) (ps : List (ℕ × ℤ)) (b : ℤ) (qs : List (ℕ × ℤ)) → Below n ps → Below n qs → Below n (combined a ps b qs)
below_combined n a [] b qs g h = below_scaled n b qs h
below_combined n a (p ∷ ps) b qs g h = below_merged n a p (combined a ps b) b g.0 (λ rs. below_combined n a ps b rs g.1) qs h

pub below_divided : (n : ℕ) (d : ℤ) (ps : List (ℕ × ℤ)) → Below n ps → Below n (divided_pairs d ps)
below_divided n d [] b = tt
below_divided n d (p ∷ ps) b = (b.0, below_divided n d ps b.1)

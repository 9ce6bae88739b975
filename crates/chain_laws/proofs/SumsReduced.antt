-- A reduced item is the sum that its multipliers say.
use Rattle.std.proofs.Common.{◌≡◌, ℕ, zero, suc, ◌<◌, ◌/◌, List, [], ◌∷◌, inl, inr, arith, sym, ◌∙◌, ap}
use Rattle.std.specs.Prelude.{unsigned_abs, int_div}
use Rattle.std.specs.Int.{◌∣◌}
use Rattle.std.proofs.Math.IntN.{ℤ, pos, negsuc, ◌+ℤ◌, ◌*ℤ◌, *ℤ_comm}
use Rattle.std.specs.Int.Signed.{◌<ℤ◌, ◌≤ℤ◌}
use Rattle.std.proofs.lemmas.Int.{ints}
use Rattle.std.proofs.lemmas.Nat.Gcd.{dvd_trans}
use Rattle.clp_rationals.proofs.Whole.{mul_assoc_ℤ, mul_add_ℤ}
use Rattle.clp_rationals.proofs.Lowest.{cancel_ℤ}
use Rattle.clp_model.specs.Clauses.{Row}
use Rattle.clp_model.specs.declared.sort.Rel.{Rel}
use Rattle.clp_model.specs.declared.sort.Rel.TheVariants.{Eq, Le, Lt}
use Rattle.linear_model.specs.Forms.{coefficient}
use Rattle.linear_model.specs.Gcd.{gcd}
use Rattle.linear_model.specs.Normal.{row_gcd}
use Rattle.linear_model.specs.Certificates.{weighted_coefficient, weighted_constant, Allowed, StrictUsed}
use Rattle.linear_laws.proofs.Ring.{mul_zero}
use Rattle.linear_laws.proofs.Gcd.{gcd_is}
use Rattle.linear_laws.proofs.Normal.{exact, max_divides}
use Rattle.linear_model.specs.Items.{Item, weights_gcd, divided_weights, reduced}
use Rattle.chain_laws.proofs.Sums.{OnEquations, Gives, IsSum}
use Rattle.linear_laws.proofs.Divided.{divides_on}
use Rattle.chain_laws.proofs.Reduced.{divisor, divisor_divides, divisor_positive, coefficient_reduced}

same_product : (g : ℕ) (y z : ℤ) → 0 < g → pos g *ℤ y ≡ pos g *ℤ z → y ≡ z
same_product g y z h e = cancel_ℤ y z g h (*ℤ_comm y (pos g) ∙ (e ∙ *ℤ_comm (pos g) z))

module _ (g : ℕ) (h : 0 < g) where
  -- the divisor divides the number that the gcd begins with, and each multiplier
  start : (n : ℕ) (ms : List ℤ) → g ∣ weights_gcd n ms → g ∣ n
  start n [] d = d
  start n (m ∷ ms) d = dvd_trans g (start (gcd (unsigned_abs m) n) ms d) (gcd_is (unsigned_abs m) n).1

  head : (n : ℕ) (m : ℤ) (ms : List ℤ) → g ∣ weights_gcd n (m ∷ ms) → g ∣ unsigned_abs m
  head n m ms d = dvd_trans g (start (gcd (unsigned_abs m) n) ms d) (gcd_is (unsigned_abs m) n).0

  one_term : (m z s t : ℤ) → g ∣ unsigned_abs m → pos g *ℤ s ≡ t → pos g *ℤ (int_div m (pos g) *ℤ z +ℤ s) ≡ m *ℤ z +ℤ t
  one_term m z s t d e =
      let a = mul_add_ℤ (pos g) (int_div m (pos g) *ℤ z) s in
      let b = mul_assoc_ℤ (pos g) (int_div m (pos g)) z in
      let c = ap (λ y. y *ℤ z) (exact m g h d) in
      a ∙ omega (arith, ints)

  coefficients : (n : ℕ) (rs : List Row) (ms : List ℤ) (v : ℕ) → g ∣ weights_gcd n ms → pos g *ℤ weighted_coefficient rs (divided_weights (pos g) ms) v ≡ weighted_coefficient rs ms v
  coefficients n [] ms v d = mul_zero (pos g)
  coefficients n (r ∷ rs) [] v d = mul_zero (pos g)
  coefficients n (r ∷ rs) (m ∷ ms) v d =
      one_term m (coefficient r.pairs v) (weighted_coefficient rs (divided_weights (pos g) ms) v) (weighted_coefficient rs ms v) (head n m ms d) (coefficients (gcd (unsigned_abs m) n) rs ms v d)

  constants : (n : ℕ) (rs : List Row) (ms : List ℤ) → g ∣ weights_gcd n ms → pos g *ℤ weighted_constant rs (divided_weights (pos g) ms) ≡ weighted_constant rs ms
  constants n [] ms d = mul_zero (pos g)
  constants n (r ∷ rs) [] d = mul_zero (pos g)
  constants n (r ∷ rs) (m ∷ ms) d =
      one_term m r.constant (weighted_constant rs (divided_weights (pos g) ms)) (weighted_constant rs ms) (head n m ms d) (constants (gcd (unsigned_abs m) n) rs ms d)

  zero_divided : (m : ℤ) → m ≡ pos 0 → int_div m (pos g) ≡ pos 0
  zero_divided m e = ap (λ z. int_div z (pos g)) e ∙ ap pos (omega arith)

  at_least : (m : ℤ) → pos 0 ≤ℤ m → pos 0 ≤ℤ int_div m (pos g)
  at_least (pos m) p = omega (arith, ints)
  at_least (negsuc m) p = absurd (omega (arith, ints))

  above : (m : ℤ) → g ∣ unsigned_abs m → pos 0 <ℤ m → pos 0 <ℤ int_div m (pos g)
  above (pos m) d p = by (m / g) (exact (pos m) g h d)
    where
      by : (q : ℕ) → pos g *ℤ pos q ≡ pos m → pos 0 <ℤ pos q
      by zero e = let f = mul_zero (pos g) in absurd (omega (arith, ints))
      by (suc q) e = omega (arith, ints)
  above (negsuc m) d p = absurd (omega (arith, ints))

  on_equations : (rs : List Row) (ms : List ℤ) → OnEquations rs ms → OnEquations rs (divided_weights (pos g) ms)
  on_equations [] [] k = tt
  on_equations [] (m ∷ ms) k = absurd k
  on_equations (r ∷ rs) [] k = absurd k
  on_equations (r ∷ rs) (m ∷ ms) k = (elim k.0 [ inl e ↦ inl e | inr z ↦ inr (zero_divided m z) ], on_equations rs ms k.1)

  allowed : (rs : List Row) (ms : List ℤ) → Allowed rs ms → Allowed rs (divided_weights (pos g) ms)
  allowed [] [] k = tt
  allowed [] (m ∷ ms) k = absurd k
  allowed (r ∷ rs) [] k = absurd k
  allowed (r ∷ rs) (m ∷ ms) k = (elim k.0 [ inl e ↦ inl e | inr z ↦ inr (at_least m z) ], allowed rs ms k.1)

  strict : (n : ℕ) (rs : List Row) (ms : List ℤ) → g ∣ weights_gcd n ms → StrictUsed rs ms → StrictUsed rs (divided_weights (pos g) ms)
  strict n [] ms d k = absurd k
  strict n (r ∷ rs) [] d k = absurd k
  strict n (r ∷ rs) (m ∷ ms) d (inl s) = inl (s.0, above m (head n m ms d) s.1)
  strict n (r ∷ rs) (m ∷ ms) d (inr s) = inr (strict (gcd (unsigned_abs m) n) rs ms d s)

  gives : (n : ℕ) (rel : Rel) (rs : List Row) (ms : List ℤ) → g ∣ weights_gcd n ms → Gives rel rs ms → Gives rel rs (divided_weights (pos g) ms)
  gives n Eq rs ms d k = on_equations rs ms k
  gives n Le rs ms d k = allowed rs ms k
  gives n Lt rs ms d k = (allowed rs ms k.0, strict n rs ms d k.1)

pub reduced_sum : (rows : List Row) (i : Item) → IsSum rows i → IsSum rows (reduced i)
reduced_sum rows i s =
    let g = divisor i in
    let h = divisor_positive i in
    let n = row_gcd i.row in
    let d : g ∣ weights_gcd n i.m = max_divides (weights_gcd n i.m) in
    record {
      coefficients = λ v. same_product g _ _ h
          (coefficient_reduced i v ∙ (s.coefficients v ∙ sym (coefficients g h n rows i.m v d)));
      constant = same_product g _ _ h
          (exact i.row.constant g h (divides_on g (unsigned_abs i.row.constant) i.row.pairs (divisor_divides i)) ∙ (s.constant ∙ sym (constants g h n rows i.m d)));
      gives = gives g h n i.row.rel rows i.m d s.gives;
    }

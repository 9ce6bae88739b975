-- A denominator under which each bound of x is a whole number.
use Rattle.std.proofs.Common.{◌≡◌, ℕ, zero, suc, ◌*◌, ◌<◌, ◌/◌, List, [], ◌∷◌, arith, refl, sym, ◌∙◌, ap, subst}
use Rattle.std.specs.Prelude.{unsigned_abs}
use Rattle.std.specs.Int.{◌∣◌}
use Rattle.std.proofs.Math.IntN.{ℤ, pos, neg_ℤ, ◌+ℤ◌, ◌*ℤ◌, pos-*ℤ-pos}
use Rattle.std.proofs.lemmas.Int.{ints}
use Rattle.std.proofs.lemmas.Nat.Gcd.{dvd_trans}
use Rattle.std.proofs.Math.Nat.{mul_assoc, mul_comm, dvd-mul_right, dvd-mul_left}
use Rattle.clp_rationals.proofs.Whole.{mul_neg, neg_mul, mul_add_ℤ, mul_assoc_ℤ}
use Rattle.clp_model.specs.Clauses.{Row}
use Rattle.clp_model.proofs.Membership.{Among, first, next}
use Rattle.linear_model.specs.Forms.{coefficient}
use Rattle.linear_laws.proofs.Gcd.{divided_back}
use Rattle.linear_laws.proofs.Refining.{positive_product}

-- the number, or 1 for 0
abbrev pub at_least_one : ℕ → ℕ
at_least_one zero = 1
at_least_one (suc n) = suc n

one_positive : (n : ℕ) → 0 < at_least_one n
one_positive zero = omega arith
one_positive (suc n) = omega arith

one_same : (n : ℕ) → 0 < n → at_least_one n ≡ n
one_same zero h = absurd (omega arith)
one_same (suc n) h = refl

module _ (x : ℕ) where
  -- how large the coefficient of x is
  abbrev pub size : Row → ℕ
  size r = unsigned_abs (coefficient r.pairs x)

  abbrev pub common : List Row → ℕ
  common [] = 1
  common (r ∷ rs) = at_least_one (size r) * common rs

  pub common_positive : (rows : List Row) → 0 < common rows
  common_positive [] = omega arith
  common_positive (r ∷ rs) = positive_product (at_least_one (size r)) (common rs) (one_positive (size r)) (common_positive rs)

  divides : (rows : List Row) (r : Row) → Among r rows → at_least_one (size r) ∣ common rows
  divides [] r a = elim a [ ]
  divides (s ∷ rows) r first = dvd-mul_right (at_least_one (size r)) (common rows)
  divides (s ∷ rows) r (next a) = dvd_trans (at_least_one (size r)) (divides rows r a) (dvd-mul_left (common rows) (at_least_one (size s)))

  pub times_back : (rows : List Row) (r : Row) → Among r rows → 0 < size r → size r * (common rows / size r) ≡ common rows
  times_back rows r a h =
      let d : size r ∣ common rows = subst (λ n. n ∣ common rows) (one_same (size r) h) (divides rows r a) in
      mul_comm (size r) (common rows / size r) ∙ divided_back (size r) (common rows) d

-- ---- one row under the refined valuation, with base its value at x = 0 and n its bound
factor_out : (p t m : ℕ) (base : ℤ) → p * t ≡ m → pos (2 * m) *ℤ base ≡ pos p *ℤ (pos t *ℤ base +ℤ pos t *ℤ base)
factor_out p t m base e =
    let a = mul_add_ℤ (pos p) (pos t *ℤ base) (pos t *ℤ base) in
    let b = mul_assoc_ℤ (pos p) (pos t) base in
    let c : (pos p *ℤ pos t) *ℤ base ≡ pos m *ℤ base = ap (λ z. z *ℤ base) (pos-*ℤ-pos p t ∙ ap pos e) in
    let d = mul_assoc_ℤ (pos 2) (pos m) base in
    let f : (pos 2 *ℤ pos m) *ℤ base ≡ pos (2 * m) *ℤ base = ap (λ z. z *ℤ base) (pos-*ℤ-pos 2 m) in
    let g : pos 2 *ℤ (pos m *ℤ base) ≡ pos m *ℤ base +ℤ pos m *ℤ base = omega (arith, ints) in
    omega (arith, ints)

pub at_lower : (p t m : ℕ) (y base : ℤ) → p * t ≡ m
    → neg_ℤ (pos p) *ℤ y +ℤ pos (2 * m) *ℤ base ≡ pos p *ℤ (pos t *ℤ base +ℤ pos t *ℤ base +ℤ neg_ℤ y)
at_lower p t m y base e =
    let a = factor_out p t m base e in
    let b = mul_add_ℤ (pos p) (pos t *ℤ base +ℤ pos t *ℤ base) (neg_ℤ y) in
    let c = neg_mul (pos p) y in
    let d = mul_neg (pos p) y in
    omega (arith, ints)

pub at_upper : (p t m : ℕ) (y base : ℤ) → p * t ≡ m
    → pos p *ℤ y +ℤ pos (2 * m) *ℤ base ≡ pos p *ℤ (y +ℤ (pos t *ℤ base +ℤ pos t *ℤ base))
at_upper p t m y base e =
    let a = factor_out p t m base e in
    let b = mul_add_ℤ (pos p) y (pos t *ℤ base +ℤ pos t *ℤ base) in
    omega (arith, ints)

-- ---- a pair of bounds
shifted : (a p t m : ℕ) (base : ℤ) → p * t ≡ m → pos (a * p) *ℤ (pos t *ℤ base) ≡ pos m *ℤ (pos a *ℤ base)
shifted a p t m base e =
    let b : a * p * t ≡ m * a = mul_assoc a p t ∙ (ap (λ n. a * n) e ∙ mul_comm a m) in
    sym (mul_assoc_ℤ (pos (a * p)) (pos t) base)
    ∙ (ap (λ z. z *ℤ base) (pos-*ℤ-pos (a * p) t ∙ (ap pos b ∙ sym (pos-*ℤ-pos m a)))
    ∙ mul_assoc_ℤ (pos m) (pos a) base)

pub pair_value : (a b p q s t m : ℕ) (l r : ℤ) → a * p ≡ b * q → p * s ≡ m → q * t ≡ m
    → pos (a * p) *ℤ (pos s *ℤ l +ℤ pos t *ℤ r) ≡ pos m *ℤ (pos a *ℤ l +ℤ pos b *ℤ r)
pair_value a b p q s t m l r e f g =
    let h = mul_add_ℤ (pos (a * p)) (pos s *ℤ l) (pos t *ℤ r) in
    let i = mul_add_ℤ (pos m) (pos a *ℤ l) (pos b *ℤ r) in
    let j = shifted a p s m l f in
    let k : pos (a * p) *ℤ (pos t *ℤ r) ≡ pos m *ℤ (pos b *ℤ r) = ap (λ n. pos n *ℤ (pos t *ℤ r)) e ∙ shifted b q t m r g in
    omega (arith, ints)

-- The turns of a weighted sum.
use Rattle.std.proofs.Common.{◌≡◌, ℕ, zero, suc, ◌+◌, ◌*◌, ◌<◌, ◌≤◌, List, [], ◌∷◌, length, get_or, drop, drop-cons, add-one, Bool, true, false, ◌&&◌, arith, refl, sym, ◌∙◌, ap, subst, to_z, of_z}
use Rattle.std.specs.Prelude.{unsigned_abs, nat_le}
use Rattle.std.proofs.Math.IntN.{ℤ, pos, ◌+ℤ◌, ◌*ℤ◌}
use Rattle.std.proofs.lemmas.Int.{ints, to_z-of_z, fits_signed_from_abs}
use Rattle.std.proofs.lemmas.Bool.Decides.{nat_tests}
use mir.Syntax.{w64, w128}
use Rattle.clp_model.specs.Clauses.{Row}
use Rattle.linear_model.specs.Forms.{coefficient}
use Rattle.linear_model.specs.Normal.{limit}
use Rattle.linear_model.specs.Chain.{multiplier_limit, weights_within}
use Rattle.linear_model.specs.Certificates.{weighted_coefficient, weighted_constant}

pub both : (a b : Bool) → (a && b) ≡ true → (a ≡ true) × (b ≡ true)
both true true e = (refl, refl)
both true false e = cc
both false b e = cc

small_test : (n m : ℕ) → nat_le n m ≡ true → n ≤ m
small_test n m h = grind (arith, nat_tests)

pub same_64 : (z : ℤ) → unsigned_abs z ≤ limit → to_z w64 (of_z w64 z) ≡ z
same_64 z h = to_z-of_z w64 z (fits_signed_from_abs w64 z (omega arith))

pub weight_small : (ms : List ℤ) (i : ℕ) → weights_within ms ≡ true → i < length ms → unsigned_abs (get_or ms i (pos 0)) ≤ multiplier_limit
weight_small [] i w h = absurd (omega arith)
weight_small (m ∷ ms) zero w h = small_test (unsigned_abs m) multiplier_limit (both (nat_le (unsigned_abs m) multiplier_limit) (weights_within ms) w).0
weight_small (m ∷ ms) (suc i) w h = weight_small ms i (both (nat_le (unsigned_abs m) multiplier_limit) (weights_within ms) w).1 (omega arith)

pub weight_same : (ms : List ℤ) (i : ℕ) → weights_within ms ≡ true → i < length ms → to_z w64 (of_z w64 (get_or ms i (pos 0))) ≡ get_or ms i (pos 0)
weight_same ms i w h = let a = weight_small ms i w h in same_64 (get_or ms i (pos 0)) (omega arith)

pub weight_at : (ms : List ℤ) (i : ℕ) → weights_within ms ≡ true → i < length ms → unsigned_abs (to_z w64 (of_z w64 (get_or ms i (pos 0)))) ≤ multiplier_limit
weight_at ms i w h = subst (λ z. unsigned_abs z ≤ multiplier_limit) (sym (weight_same ms i w h)) (weight_small ms i w h)

pub constant_at : (rows : List Row) (ms : List ℤ) (i : ℕ) (d : Row) → i < length rows → length ms ≡ length rows
    → weighted_constant (drop i rows) (drop i ms) ≡ get_or ms i (pos 0) *ℤ (get_or rows i d).constant +ℤ weighted_constant (drop (i + 1) rows) (drop (i + 1) ms)
constant_at rows ms i d h e =
    let a : drop i rows ≡ get_or rows i d ∷ drop (i + 1) rows = rw (add-one, drop-cons rows i d) refl in
    let k : i < length ms = omega arith in
    let b : drop i ms ≡ get_or ms i (pos 0) ∷ drop (i + 1) ms = rw (add-one, drop-cons ms i (pos 0)) refl in
    ap (λ ys. weighted_constant ys (drop i ms)) a ∙ ap (λ ns. weighted_constant (get_or rows i d ∷ drop (i + 1) rows) ns) b

pub coefficient_at : (rows : List Row) (ms : List ℤ) (v i : ℕ) (d : Row) → i < length rows → length ms ≡ length rows
    → weighted_coefficient (drop i rows) (drop i ms) v ≡ get_or ms i (pos 0) *ℤ coefficient (get_or rows i d).pairs v +ℤ weighted_coefficient (drop (i + 1) rows) (drop (i + 1) ms) v
coefficient_at rows ms v i d h e =
    let a : drop i rows ≡ get_or rows i d ∷ drop (i + 1) rows = rw (add-one, drop-cons rows i d) refl in
    let k : i < length ms = omega arith in
    let b : drop i ms ≡ get_or ms i (pos 0) ∷ drop (i + 1) ms = rw (add-one, drop-cons ms i (pos 0)) refl in
    ap (λ ys. weighted_coefficient ys (drop i ms) v) a ∙ ap (λ ns. weighted_coefficient (get_or rows i d ∷ drop (i + 1) rows) ns v) b

wide : (r : ℤ) (i : ℕ) → i < 128 → unsigned_abs r ≤ (i + 1) * (limit * multiplier_limit) → to_z w128 (of_z w128 r) ≡ r
wide r i h k = to_z-of_z w128 r (fits_signed_from_abs w128 r (omega arith))

-- s is the sum so far and r the sum with the next product, of the multiplier m and the number x as they are read
module _ (s r : ℤ) (i n : ℕ) (few : n ≤ 128) (h : i < n) (bound : unsigned_abs s ≤ i * (limit * multiplier_limit)) (more : unsigned_abs r ≤ unsigned_abs s + limit * multiplier_limit) where
  pub turn_bound : unsigned_abs (to_z w128 (of_z w128 r)) ≤ (i + 1) * (limit * multiplier_limit)
  turn_bound =
      let k : unsigned_abs r ≤ (i + 1) * (limit * multiplier_limit) = omega arith in
      subst (λ z. unsigned_abs z ≤ (i + 1) * (limit * multiplier_limit)) (sym (wide r i (omega arith) k)) k

  pub turn : (m' m x' x here rest all : ℤ) → m' ≡ m → x' ≡ x → here ≡ m *ℤ x +ℤ rest → r ≡ s +ℤ m' *ℤ x' → s +ℤ here ≡ all → to_z w128 (of_z w128 r) +ℤ rest ≡ all
  turn m' m x' x here rest all em ex e f g =
      let a : m' *ℤ x' ≡ m *ℤ x = ap (λ z. z *ℤ x') em ∙ ap (λ z. m *ℤ z) ex in
      let k : unsigned_abs r ≤ (i + 1) * (limit * multiplier_limit) = omega arith in
      let d = wide r i (omega arith) k in
      omega (arith, ints)

-- Division of an item by its joint divisor.
use Rattle.std.proofs.Common.{◌≡◌, ℕ, ◌<◌, List, [], ◌∷◌, max, arith, ◌∙◌}
use Rattle.std.specs.Prelude.{unsigned_abs, int_div, ◌↔◌}
use Rattle.std.specs.Int.{◌∣◌}
use Rattle.std.proofs.Math.IntN.{ℤ, pos, ◌*ℤ◌}
use Rattle.std.proofs.lemmas.Nat.Gcd.{dvd_trans, dvd_refl}
use Rattle.clp_model.specs.Values.{Valuation}
use Rattle.clp_model.specs.Clauses.{RowHolds}
use Rattle.linear_model.specs.Forms.{coefficient}
use Rattle.linear_model.specs.Gcd.{gcd}
use Rattle.linear_model.specs.Normal.{row_gcd}
use Rattle.linear_model.specs.Items.{Item, item_row, item_combination, weights_gcd, reduced, joined}
use Rattle.linear_laws.proofs.Gcd.{gcd_is}
use Rattle.linear_laws.proofs.Normal.{exact, value_divided, scaled_same, max_divides}
use Rattle.linear_laws.proofs.Divided.{rising_divided, coefficient_divided, zero_back}
use Rattle.linear_laws.proofs.Exact.{Joins}
use Rattle.linear_laws.proofs.Fresh.{Keeps}

-- the divisor
abbrev pub divisor : Item → ℕ
divisor i = max 1 (weights_gcd (row_gcd i.row) i.m)

weights_divide : (n : ℕ) (ms : List ℤ) → weights_gcd n ms ∣ n
weights_divide n [] = dvd_refl n
weights_divide n (m ∷ ms) = dvd_trans (weights_gcd n (m ∷ ms)) (weights_divide (gcd (unsigned_abs m) n) ms) (gcd_is (unsigned_abs m) n).1

pub divisor_divides : (i : Item) → divisor i ∣ row_gcd i.row
divisor_divides i = dvd_trans (divisor i) (max_divides (weights_gcd (row_gcd i.row) i.m)) (weights_divide (row_gcd i.row) i.m)

pub divisor_positive : (i : Item) → 0 < divisor i
divisor_positive i = omega arith

pub divides_exactly : (i : Item) (z : ℤ) → divisor i ∣ unsigned_abs z → pos (divisor i) *ℤ int_div z (pos (divisor i)) ≡ z
divides_exactly i z d = exact z (divisor i) (divisor_positive i) d

pub coefficient_reduced : (i : Item) (v : ℕ) → pos (divisor i) *ℤ coefficient (reduced i).row.pairs v ≡ coefficient i.row.pairs v
coefficient_reduced i v = coefficient_divided (pos (divisor i)) (divisor i) (divides_exactly i) v (unsigned_abs i.row.constant) i.row.pairs (divisor_divides i)

reduced_holds : (u : Valuation) (i : Item) → RowHolds u (reduced i).row ↔ RowHolds u i.row
reduced_holds u i =
    scaled_same i.row.rel (divisor i) _ _ (divisor_positive i)
    (value_divided u (pos (divisor i)) (divisor i) (divides_exactly i) i.row (divisor_divides i))

pub item_joins : Joins item_row joined
item_joins u rel a i b j = reduced_holds u (item_combination rel a i b j)

pub item_keeps : Keeps item_row joined
item_keeps = record {
  rising = λ rel a i b j h.
      let c = item_combination rel a i b j in
      rising_divided (pos (divisor c)) (divisor c) (divides_exactly c) (unsigned_abs c.row.constant) c.row.pairs (divisor_divides c) h;
  zero = λ rel a i b j v e.
      let c = item_combination rel a i b j in
      zero_back (divisor c) (coefficient (reduced c).row.pairs v) (divisor_positive c) (coefficient_reduced c v ∙ e);
}

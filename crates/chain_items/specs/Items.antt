-- Items as the code keeps them.
use Rattle.std.specs.Prelude.{◌≡◌, ◌≤◌, ◌<◌, ◌⊎◌, false, int_div, ℕ, max, ℤ, pos, ◌*ℤ◌, ◌+ℤ◌, unsigned_abs, List, Bool, true, ◌&&◌}
use Rattle.clp_model.specs.Clauses.{Row}
use Rattle.clp_model.specs.declared.sort.Rel.{Rel}
use Rattle.linear_model.specs.Forms.{IsRising, combined}
use Rattle.linear_model.specs.Normal.{limit, divided_pairs, is_within, is_flipped, divisor_of, row_gcd, joint_gcd, normal}
use Rattle.linear_model.specs.Chain.{weights_within, multiplier_limit}
use Rattle.linear_model.specs.Items.{Item}
use Rattle.chain_items.specs.Sparse.{spread, at_most, Below}
use Rattle.chain_items.specs.Keys.{row_hash}

abbrev pub row_of : Rel → List (ℕ × ℤ) → ℤ → Row
row_of rel pairs constant = record { rel = rel; pairs = pairs; constant = constant }

abbrev pub item_of : Row → ℕ → List (ℕ × ℤ) → Item
item_of row count weights = record { row = row; m = spread 0 count weights }

-- what a row is divided by for its normal form
abbrev pub normal_divisor : Row → ℤ
normal_divisor r = divisor_of (is_flipped r.rel r.pairs) (max 1 (row_gcd r))

-- all numbers of an item are in their ranges
abbrev pub item_within : Item → Bool
item_within i = is_within i.row && weights_within i.m

-- what is kept of each item's row and multipliers
pub record IsItem (row : Row) (count : ℕ) (weights : List (ℕ × ℤ)) (divisor : ℤ) (hash : ℕ) : Type 0 where
  pub rising : IsRising row.pairs
  pub within : is_within row ≡ true
  pub places_rise : IsRising weights
  pub places_below : Below count weights
  pub multipliers_within : at_most multiplier_limit weights ≡ true
  pub divisor_is : divisor ≡ normal_divisor row
  pub hash_is : hash ≡ row_hash (normal row)

-- the joint divisor of the constant, the coefficients and the multipliers of a combination
abbrev pub joint_divisor : ℤ → ℤ → ℤ → ℤ → List (ℕ × ℤ) → List (ℕ × ℤ) → ℕ
joint_divisor a c b d pairs weights = max 1 (joint_gcd (joint_gcd (unsigned_abs (a *ℤ c +ℤ b *ℤ d)) pairs) weights)

-- some number is out of its range
abbrev pub IsPast : ℤ → List (ℕ × ℤ) → List (ℕ × ℤ) → Type 0
IsPast constant pairs weights = (limit < unsigned_abs constant) ⊎ ((at_most limit pairs ≡ false) ⊎ (at_most multiplier_limit weights ≡ false))

-- the numbers of a combination, divided by their joint divisor and in their ranges
pub record AreQuotients (a b : ℤ) (ps : List (ℕ × ℤ)) (c : ℤ) (ws : List (ℕ × ℤ)) (qs : List (ℕ × ℤ)) (d : ℤ) (vs : List (ℕ × ℤ)) (pairs : List (ℕ × ℤ)) (constant : ℤ) (weights : List (ℕ × ℤ)) : Type 0 where
  pub pairs_are : pairs ≡ divided_pairs (pos (joint_divisor a c b d (combined a ps b qs) (combined a ws b vs))) (combined a ps b qs)
  pub constant_is : constant ≡ int_div (a *ℤ c +ℤ b *ℤ d) (pos (joint_divisor a c b d (combined a ps b qs) (combined a ws b vs)))
  pub weights_are : weights ≡ divided_pairs (pos (joint_divisor a c b d (combined a ps b qs) (combined a ws b vs))) (combined a ws b vs)
  pub pairs_within : at_most limit pairs ≡ true
  pub constant_within : unsigned_abs constant ≤ limit
  pub weights_within : at_most multiplier_limit weights ≡ true

-- a combination, divided by its joint divisor, has a number out of its range
pub record IsPastRange (a b : ℤ) (ps : List (ℕ × ℤ)) (c : ℤ) (ws : List (ℕ × ℤ)) (qs : List (ℕ × ℤ)) (d : ℤ) (vs : List (ℕ × ℤ)) : Type 0 where
  pub past : (let g = joint_divisor a c b d (combined a ps b qs) (combined a ws b vs) in
      IsPast (int_div (a *ℤ c +ℤ b *ℤ d) (pos g)) (divided_pairs (pos g) (combined a ps b qs)) (divided_pairs (pos g) (combined a ws b vs)))

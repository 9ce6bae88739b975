-- The items of a chain: rows that remember by which multipliers they came.
use Rattle.std.specs.Prelude.{ℕ, ℤ, pos, ◌*ℤ◌, ◌+ℤ◌, List, [], ◌∷◌, Bool, not, max, unsigned_abs, int_div}
use Rattle.std.specs.List.{filter}
use Rattle.clp_model.specs.Clauses.{Row}
use Rattle.clp_model.specs.Predicates.{distinct_after}
use Rattle.clp_model.specs.declared.sort.Rel.{Rel}
use Rattle.linear_model.specs.Forms.{combination}
use Rattle.linear_model.specs.Gcd.{gcd}
use Rattle.linear_model.specs.Normal.{row_gcd, divided, normal, row_eq, is_always}
use Rattle.linear_model.specs.Elimination.{eliminated}

-- a row, and the multiplier of each row that the chain began with
pub record Item : Type 0 where
  pub row : Row
  pub m : List ℤ

abbrev pub item_row : Item → Row
item_row i = i.row

-- a times the first multipliers and b times the second
abbrev pub weights : ℤ → List ℤ → ℤ → List ℤ → List ℤ
weights a [] b ns = []
weights a (m ∷ ms) b [] = []
weights a (m ∷ ms) b (n ∷ ns) = (a *ℤ m +ℤ b *ℤ n) ∷ weights a ms b ns

abbrev pub item_combination : Rel → ℤ → Item → ℤ → Item → Item
item_combination rel a i b j = record { row = combination rel a i.row b j.row; m = weights a i.m b j.m }

-- ---- without the joint divisor of coefficients, constant and multipliers
abbrev pub weights_gcd : ℕ → List ℤ → ℕ
weights_gcd n [] = n
weights_gcd n (m ∷ ms) = weights_gcd (gcd (unsigned_abs m) n) ms

abbrev pub divided_weights : ℤ → List ℤ → List ℤ
divided_weights d [] = []
divided_weights d (m ∷ ms) = int_div m d ∷ divided_weights d ms

abbrev pub item_divisor : Item → ℤ
item_divisor i = pos (max 1 (weights_gcd (row_gcd i.row) i.m))

abbrev pub reduced : Item → Item
reduced i = record { row = divided (item_divisor i) i.row; m = divided_weights (item_divisor i) i.m }

-- a combination is divided by its joint divisor; an item that isn't combined stays as it is
abbrev pub joined : Rel → ℤ → Item → ℤ → Item → Item
joined rel a i b j = reduced (item_combination rel a i b j)

-- the items after the elimination of x, those that it made and those that it left
abbrev pub turn : ℕ → List Item → List Item
turn x items = eliminated item_row joined x items

-- ---- without true constant rows and repeats
abbrev pub same_normal : Item → Item → Bool
same_normal i j = row_eq (normal i.row) (normal j.row)

abbrev pub kept : List Item → List Item
kept items = distinct_after same_normal [] (filter (λ i. not (is_always i.row)) items)

-- The statements of the laws of the chain.
use Rattle.std.specs.Prelude.{◌≡◌, ◌⊎◌, ◌<◌, ◌≤◌, ℕ, List, [], length, All, Contains, Option, Some, None, true, false, nat_le, ◌↔◌}
use Rattle.clp_model.specs.Clauses.{Row}
use Rattle.clp_model.specs.declared.sort.Rel.TheVariants.{Eq}
use Rattle.linear_model.specs.Forms.{IsRising}
use Rattle.linear_model.specs.Changes.{at_most, flipped}
use Rattle.linear_model.specs.Elimination.{has}
use Rattle.linear_model.specs.Certificates.{Entails}
use Rattle.linear_model.specs.Items.{Item, turn, kept}
use Rattle.linear_model.specs.Chain.{Outcome, Shown, NotEntailed, Overflow, TooLong, first_false, least_variable, all_within, unless_false, turn_by, chain_within, places, chain, begun_with}

abbrev pub RisingRows : List Row → Type 0
RisingRows rows = All (λ r. IsRising r.pairs) rows

abbrev pub RisingItems : List Item → Type 0
RisingItems items = All (λ i. IsRising i.row.pairs) items

-- some item has x and none has a lower variable; without x every row is constant
abbrev pub IsLeast : List Item → Option ℕ → Type 0
IsLeast items None = All (λ i. i.row.pairs ≡ []) items
IsLeast items (Some x) = ((i : Item) × Contains items i × (has x i.row ≡ true)) × All (λ i. (v : ℕ) → v < x → has v i.row ≡ false) items

-- each item has n multipliers
abbrev pub HaveMultipliers : ℕ → List Item → Type 0
HaveMultipliers n items = All (λ i. length i.m ≡ n) items

-- from items to later ones by turns of a chain, each of which meets no false row and stays within the limits
pub data Reaches : List Item → List Item → Type 0 where
  here : {items : List Item} → Reaches items items
  onward : {items later : List Item} (x : ℕ) → first_false items ≡ None → least_variable items ≡ Some x
      → all_within (turn x items) ≡ true → nat_le (length (kept (turn x items))) 1024 ≡ true
      → Reaches (kept (turn x items)) later → Reaches items later

-- how a chain ends at these items
abbrev pub Ends : List Item → Outcome → Type 0
Ends items (Shown i) = first_false items ≡ Some i
Ends items NotEntailed = (first_false items ≡ None) × (least_variable items ≡ None)
Ends items Overflow = (first_false items ≡ None) × ((x : ℕ) × (least_variable items ≡ Some x) × (all_within (turn x items) ≡ false))
Ends items TooLong =
    (first_false items ≡ None)
    × ((x : ℕ) × (least_variable items ≡ Some x) × (all_within (turn x items) ≡ true) × (nat_le (length (kept (turn x items))) 1024 ≡ false))

-- a chain has an outcome exactly where it reaches items at which it ends so
abbrev pub OutcomeIsExact : Type 0
OutcomeIsExact =
    (items : List Item) (o : Outcome) → RisingItems items
    → (chain items ≡ o) ↔ ((later : List Item) × Reaches items later × Ends later o)

-- more turns than there are coefficients at the start change nothing
abbrev pub TurnsSuffice : Type 0
TurnsSuffice = (items : List Item) (n : ℕ) → RisingItems items → places items ≤ n → chain_within n items ≡ chain items

-- a chain is a turn and the chain of what it leaves, until it ends
abbrev pub GoesByTurns : Type 0
GoesByTurns =
    (items : List Item) → RisingItems items
    → chain items ≡ unless_false (first_false items) (turn_by chain items (least_variable items))

-- the variable of each turn is greater than that of the turn before
abbrev pub VariablesRise : Type 0
VariablesRise =
    (items : List Item) (x y : ℕ) → RisingItems items
    → least_variable items ≡ Some x → least_variable (kept (turn x items)) ≡ Some y → x < y

-- where one half of an equation isn't found, the rows do not entail the equation
abbrev pub HalfNotFound : Type 0
HalfNotFound =
    (rows : List Row) (target : Row) → target.rel ≡ Eq → RisingRows rows → IsRising target.pairs
    → (chain (begun_with rows (at_most target)) ≡ NotEntailed) ⊎ (chain (begun_with rows (at_most (flipped target))) ≡ NotEntailed)
    → ¬ Entails rows target

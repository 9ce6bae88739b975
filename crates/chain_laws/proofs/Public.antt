-- The laws of the chain as the contracts say them.
use Rattle.std.proofs.Common.{suc, ◌≡◌, ◌<◌, ℕ, List, [], length, false}
use Rattle.std.specs.Prelude.{All, Option, Some, None}
use Rattle.std.proofs.lemmas.List.Elements.{All-from_recursion, All-contains}
use Rattle.clp_model.proofs.Membership.{Among, from_among, all_among}
use Rattle.clp_model.specs.Clauses.{Row}
use Rattle.linear_model.specs.Forms.{IsRising}
use Rattle.linear_model.specs.Elimination.{has}
use Rattle.linear_model.specs.Items.{Item, turn, kept}
use Rattle.linear_model.specs.Chain.{least_variable, begun, begun_with}
use Rattle.linear_laws.proofs.Bounded.{zero_has_not}
use Rattle.chain_laws.specs.Laws.{RisingRows, RisingItems, IsLeast, HaveMultipliers, Reaches, OutcomeIsExact, TurnsSuffice, GoesByTurns, VariablesRise}
use Rattle.chain_laws.proofs.Turns.{turn_rising, turn_multipliers, kept_from}
use Rattle.chain_laws.proofs.Variables.{Risings, Least, least, least_rises}
use Rattle.chain_laws.proofs.Outcomes.{outcome_is_exact, turns_suffice, goes_by_turns}
use Rattle.chain_laws.proofs.Reaching.{rising_along, multipliers_along}
use Rattle.chain_laws.proofs.Starting.{begun_rises, begun_with_rises, begun_count, begun_with_count}

to_all : (P : Item → Type 0) (items : List Item) → ((i : Item) → Among i items → P i) → All P items
to_all P items h = All-from_recursion P items (all_among P items h)

from_all : (P : Item → Type 0) (items : List Item) → All P items → (i : Item) → Among i items → P i
from_all P items h i a = All-contains P items i h (from_among a)

abbrev Rises : Item → Type 0
Rises i = IsRising i.row.pairs

rises : (items : List Item) → RisingItems items → Risings items
rises items h = from_all Rises items h

pub least_is : (items : List Item) → RisingItems items → IsLeast items (least_variable items)
least_is items h = by (least_variable items) (least items (rises items h))
  where
    by : (o : Option ℕ) → Least items o → IsLeast items o
    by None l = to_all (λ (i : Item). i.row.pairs ≡ []) items l
    by (Some x) l = (
      (l.0.0, from_among l.0.1, l.0.2),
      to_all (λ (i : Item). (v : ℕ) → v < x → has v i.row ≡ false) items (λ i a v k. zero_has_not v i.row (l.1 i a v k)),
    )

pub exact_outcome : OutcomeIsExact
exact_outcome items o h = outcome_is_exact items o (rises items h)

pub enough_turns : TurnsSuffice
enough_turns items n h l = turns_suffice items n (rises items h) l

pub by_turns : GoesByTurns
by_turns items h = goes_by_turns items (rises items h)

pub variables_rise : VariablesRise
variables_rise items x y h e f = least_rises items x y (rises items h) e f

pub turn_rises : (x : ℕ) (items : List Item) → RisingItems items → RisingItems (turn x items)
turn_rises x items h = to_all Rises (turn x items) (turn_rising x items (rises items h))

pub kept_rises : (items : List Item) → RisingItems items → RisingItems (kept items)
kept_rises items h = to_all Rises (kept items) (λ i a. rises items h i (kept_from items i a))

pub chain_rises : (items later : List Item) → Reaches items later → RisingItems items → RisingItems later
chain_rises items later r h = to_all Rises later (rising_along r (rises items h))

pub turn_keeps_count : (n x : ℕ) (items : List Item) → HaveMultipliers n items → HaveMultipliers n (turn x items)
turn_keeps_count n x items h = to_all (λ (i : Item). length i.m ≡ n) (turn x items) (turn_multipliers n x items (from_all (λ (i : Item). length i.m ≡ n) items h))

pub kept_keeps_count : (n : ℕ) (items : List Item) → HaveMultipliers n items → HaveMultipliers n (kept items)
kept_keeps_count n items h = to_all (λ (i : Item). length i.m ≡ n) (kept items) (λ i a. from_all (λ (i : Item). length i.m ≡ n) items h i (kept_from items i a))

pub chain_keeps_count : (n : ℕ) (items later : List Item) → Reaches items later → HaveMultipliers n items → HaveMultipliers n later
chain_keeps_count n items later r h = to_all (λ (i : Item). length i.m ≡ n) later (multipliers_along n r (from_all (λ (i : Item). length i.m ≡ n) items h))

-- ---- at the start
pub start_rises : (rows : List Row) → RisingRows rows → RisingItems (begun rows)
start_rises rows h = to_all Rises (begun rows) (begun_rises rows h)

pub start_with_rises : (rows : List Row) (target : Row) → RisingRows rows → IsRising target.pairs → RisingItems (begun_with rows target)
start_with_rises rows target h t = to_all Rises (begun_with rows target) (begun_with_rises rows target h t)

pub start_counts : (rows : List Row) → HaveMultipliers (length rows) (begun rows)
start_counts rows = to_all (λ (i : Item). length i.m ≡ length rows) (begun rows) (begun_count rows)

pub start_with_counts : (rows : List Row) (target : Row) → HaveMultipliers (suc (length rows)) (begun_with rows target)
start_with_counts rows target = to_all (λ (i : Item). length i.m ≡ suc (length rows)) (begun_with rows target) (begun_with_count rows target)

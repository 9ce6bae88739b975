-- The items that a turn keeps, and the table by which a repeat is found.
use Rattle.std.specs.Prelude.{◌≡◌, ℕ, ◌-◌, ◌/◌, ◌<◌, ◌≤◌, ◌^◌, List, [], ◌∷◌, length, map, true, nat_lt, get_or, if◌then◌else◌}
use Rattle.clp_model.specs.Predicates.{with_element}
use Rattle.linear_model.specs.Normal.{is_always, normal}
use Rattle.linear_model.specs.Items.{Item, same_normal}
use Rattle.linear_model.specs.Chain.{all_within}
use Rattle.chain_items.specs.Keys.{row_hash}

-- an item put last, unless it is a true constant or a repeat, or there are more than 1,024 already
abbrev pub with_item : List Item → Item → List Item
with_item kept i = if nat_lt 1024 (length kept) then kept else if is_always i.row then kept else with_element same_normal kept i

-- each of the items put last in turn
abbrev pub with_items : List Item → List Item → List Item
with_items kept [] = kept
with_items kept (i ∷ is) = with_items (with_item kept i) is

-- the items came, each within its ranges, and took the kept ones from `before` to `after`
pub record Adds (before made after : List Item) : Type 0 where
  pub kept : after ≡ with_items before made
  pub within : all_within made ≡ true

-- the list of the table in which an item is found
abbrev pub bucket : Item → ℕ
bucket i = row_hash (normal i.row) / 2 ^ 54

abbrev pub buckets : List Item → List ℕ
buckets items = map bucket items

-- in each list of the table the places fall; a place is written as one more, and 0 ends the list
pub record IsTable (bs heads next : List ℕ) : Type 0 where
  pub heads_length : length heads ≡ 1024
  pub next_length : length next ≡ 1025
  pub few : length bs ≤ 1025
  pub heads_within : (b : ℕ) → get_or heads b 0 ≤ length bs
  pub heads_in : (b : ℕ) → 0 < get_or heads b 0 → get_or bs (get_or heads b 0 - 1) 0 ≡ b
  pub heads_last : (k : ℕ) → k < length bs → k < get_or heads (get_or bs k 0) 0
  pub next_within : (i : ℕ) → i < length bs → get_or next i 0 ≤ i
  pub next_in : (i : ℕ) → i < length bs → 0 < get_or next i 0 → get_or bs (get_or next i 0 - 1) 0 ≡ get_or bs i 0
  pub next_last : (k i : ℕ) → k < i → i < length bs → get_or bs k 0 ≡ get_or bs i 0 → k < get_or next i 0

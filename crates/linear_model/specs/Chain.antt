-- The chain of eliminations that finds a certificate.
use Rattle.std.specs.Prelude.{ℕ, zero, suc, ◌+◌, ◌^◌, ◌-◌, ℤ, pos, neg_ℤ, List, [], ◌∷◌, ◌++◌, map, length, Bool, true, not, ◌&&◌, Option, Some, None, unsigned_abs, nat_le, nat_lt, int_lt, if◌then◌else◌}
use Rattle.clp_model.specs.Clauses.{Row}
use Rattle.linear_model.specs.Normal.{is_within, compares, is_constant}
use Rattle.linear_model.specs.Changes.{negated}
use Rattle.linear_model.specs.Elimination.{is_equation}
use Rattle.linear_model.specs.Certificates.{Part}
use Rattle.linear_model.specs.Items.{Item, turn, kept}

-- how a chain ends: with a false item, with no variable left, or past a limit
pub data Outcome : Type 0 where
  Shown : Item → Outcome
  NotEntailed : Outcome
  Overflow : Outcome
  TooLong : Outcome

-- a row without variables that is false
abbrev pub is_never : Row → Bool
is_never r = is_constant r.pairs && not (compares r.rel r.constant)

abbrev pub first_false : List Item → Option Item
first_false [] = None
first_false (i ∷ is) = if is_never i.row then Some i else first_false is

-- the least variable of a row whose variables rise
abbrev pub first_variable : List (ℕ × ℤ) → Option ℕ
first_variable [] = None
first_variable (p ∷ ps) = Some p.0

abbrev pub lesser : Option ℕ → Option ℕ → Option ℕ
lesser None b = b
lesser (Some a) None = Some a
lesser (Some a) (Some b) = Some (if nat_lt b a then b else a)

-- the least variable that occurs
abbrev pub least_variable : List Item → Option ℕ
least_variable [] = None
least_variable (i ∷ is) = lesser (first_variable i.row.pairs) (least_variable is)

-- the greatest magnitude of a multiplier
abbrev pub multiplier_limit : ℕ
multiplier_limit = 2 ^ 56 - 1

abbrev pub weights_within : List ℤ → Bool
weights_within [] = true
weights_within (m ∷ ms) = nat_le (unsigned_abs m) multiplier_limit && weights_within ms

abbrev pub all_within : List Item → Bool
all_within [] = true
all_within (i ∷ is) = is_within i.row && weights_within i.m && all_within is

abbrev pub unless_false : Option Item → Outcome → Outcome
unless_false (Some i) o = Shown i
unless_false None o = o

-- after a turn that made these items
abbrev pub after_turn : (List Item → Outcome) → List Item → Outcome
after_turn go_on made =
    if not (all_within made) then Overflow
    else if nat_le (length (kept made)) 1024 then go_on (kept made)
    else TooLong

abbrev pub turn_by : (List Item → Outcome) → List Item → Option ℕ → Outcome
turn_by go_on items None = NotEntailed
turn_by go_on items (Some x) = after_turn go_on (turn x items)

-- in at most n turns
abbrev pub chain_within : ℕ → List Item → Outcome
chain_within zero items = unless_false (first_false items) NotEntailed
chain_within (suc n) items = unless_false (first_false items) (turn_by (chain_within n) items (least_variable items))

abbrev pub places : List Item → ℕ
places [] = 0
places (i ∷ is) = length i.row.pairs + places is

-- each turn eliminates a variable and brings none, so that there are no more turns than coefficients at the start
abbrev pub chain : List Item → Outcome
chain items = chain_within (places items) items

-- ---- how it begins, and what a false item gives
-- each row with 1 as its own multiplier
abbrev pub begun : List Row → List Item
begun [] = []
begun (r ∷ rs) = record { row = r; m = pos 1 ∷ map (λ _. pos 0) rs } ∷ map (λ i. record { row = i.row; m = pos 0 ∷ i.m }) (begun rs)

abbrev pub first_last : List Item → List Item
first_last [] = []
first_last (i ∷ is) = is ++ i ∷ []

-- the rows and then the negated target, whose multiplier stands first
abbrev pub begun_with : List Row → Row → List Item
begun_with rows target = first_last (begun (negated target ∷ rows))

-- with the sign changed for an equation whose constant is below 0
abbrev pub signed : Item → List ℤ
signed i = if is_equation i.row.rel && int_lt i.row.constant (pos 0) then map neg_ℤ i.m else i.m

-- the first multiplier is the negated target's
abbrev pub part_of : List ℤ → Part
part_of [] = record { k = pos 0; m = [] }
part_of (k ∷ ms) = record { k = k; m = ms }

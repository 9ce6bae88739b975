-- The first fault of a certificate.
use Rattle.std.specs.Prelude.{ℕ, ℤ, pos, neg_ℤ, ◌*ℤ◌, List, [], ◌∷◌, length, Bool, true, false, not, ◌&&◌, ◌||◌, nat_eq, int_lt, if◌then◌else◌, Option, Some, None}
use Rattle.std.specs.Ordering.{int_eq}
use Rattle.clp_model.specs.Clauses.{Row}
use Rattle.clp_model.specs.declared.sort.Rel.{Rel}
use Rattle.clp_model.specs.declared.sort.Rel.TheVariants.{Eq, Le, Lt}
use Rattle.linear_model.specs.Forms.{coefficient}
use Rattle.linear_model.specs.Changes.{opposite_pairs, at_most, flipped}
use Rattle.linear_model.specs.Elimination.{is_equation}
use Rattle.linear_model.specs.Certificates.{Part, weighted_coefficient, weighted_constant}
use Rattle.farkas_check.specs.declared.fault.CheckFault.{CheckFault}
use Rattle.farkas_check.specs.declared.fault.CheckFault.TheVariants.{Form, Count, Negative, NotConstant, WrongSign}
use Rattle.farkas_check.specs.declared.cert.Cert.{Cert}
use Rattle.farkas_check.specs.declared.cert.Cert.TheVariants.{One, Two}

abbrev pub is_strict : Rel → Bool
is_strict Eq = false
is_strict Le = false
is_strict Lt = true

-- a multiplier below 0 of an inequality
abbrev pub is_negative : Row → ℤ → Bool
is_negative r m = not (is_equation r.rel) && int_lt m (pos 0)

abbrev pub any_negative : List Row → List ℤ → Bool
any_negative [] ms = false
any_negative (r ∷ rs) [] = false
any_negative (r ∷ rs) (m ∷ ms) = is_negative r m || any_negative rs ms

-- a positive multiplier of a strict row
abbrev pub is_strictly_used : Row → ℤ → Bool
is_strictly_used r m = is_strict r.rel && int_lt (pos 0) m

abbrev pub strict_used : List Row → List ℤ → Bool
strict_used [] ms = false
strict_used (r ∷ rs) [] = false
strict_used (r ∷ rs) (m ∷ ms) = is_strictly_used r m || strict_used rs ms

-- v has the same coefficient in the weighted sum of the rows and in k times the pairs
abbrev pub cancels_at : List Row → List ℤ → ℤ → List (ℕ × ℤ) → ℕ → Bool
cancels_at rows m k pairs v = int_eq (weighted_coefficient rows m v) (k *ℤ coefficient pairs v)

-- each variable of the pairs passes
abbrev pub each_passes : (ℕ → Bool) → List (ℕ × ℤ) → Bool
each_passes test [] = true
each_passes test (p ∷ ps) = test p.0 && each_passes test ps

abbrev pub each_row_passes : (ℕ → Bool) → List Row → Bool
each_row_passes test [] = true
each_row_passes test (r ∷ rs) = each_passes test r.pairs && each_row_passes test rs

-- the weighted sum of the rows less k times the pairs has no variable
unfoldable pub cancels : List Row → List ℤ → ℤ → List (ℕ × ℤ) → Bool
cancels rows m k pairs = each_row_passes (cancels_at rows m k pairs) rows && each_passes (cancels_at rows m k pairs) pairs

-- the constant is great enough: above what is needed, or equal where a strict row is used or that is allowed
abbrev pub is_enough : ℤ → ℤ → Bool → Bool → Bool
is_enough sum needed strict allows_equal = int_lt needed sum || (int_eq sum needed && (strict || allows_equal))

-- the fault of the weighted sum of the rows less k times the pairs and the constant
abbrev pub sum_fault : List Row → List ℤ → ℤ → List (ℕ × ℤ) → ℤ → Bool → Option CheckFault
sum_fault rows m k pairs constant allows_equal =
    if not (cancels rows m k pairs) then Some NotConstant
    else if not (is_enough (weighted_constant rows m) (k *ℤ constant) (strict_used rows m) allows_equal) then Some WrongSign
    else None

-- the fault of the multipliers by themselves
abbrev pub weights_fault : List Row → Part → Option CheckFault
weights_fault rows part =
    if not (nat_eq (length part.m) (length rows)) then Some Count
    else if int_lt part.k (pos 0) || any_negative rows part.m then Some Negative
    else None

-- the first of two faults
abbrev pub first_of : Option CheckFault → Option CheckFault → Option CheckFault
first_of (Some f) g = Some f
first_of None g = g

-- nothing need be left for a target `L =< 0` that has a multiplier
abbrev pub allows_equal : Rel → ℤ → Bool
allows_equal Eq k = false
allows_equal Le k = int_lt (pos 0) k
allows_equal Lt k = false

-- the row's sum or its opposite under the relation
abbrev pub side : Bool → Rel → Row → Row
side false rel r = record { rel = rel; pairs = r.pairs; constant = r.constant }
side true rel r = record { rel = rel; pairs = opposite_pairs r.pairs; constant = neg_ℤ r.constant }

-- the multiplier with which the row's own sum gives the side
abbrev pub oriented : Bool → ℤ → ℤ
oriented false k = k
oriented true k = neg_ℤ k

-- the first fault of a part that is to show an inequality
abbrev pub check_fault : List Row → Row → Part → Option CheckFault
check_fault rows target part =
    first_of (weights_fault rows part) (sum_fault rows part.m part.k target.pairs target.constant (allows_equal target.rel part.k))

-- of a certificate: one part for an inequality, two for an equation
abbrev pub shown_fault : List Row → Row → Cert → Option CheckFault
shown_fault rows target (One p) = if is_equation target.rel then Some Form else check_fault rows target p
shown_fault rows target (Two p q) =
    if is_equation target.rel then first_of (check_fault rows (at_most target) p) (check_fault rows (at_most (flipped target)) q)
    else Some Form

-- `0 < 0`
abbrev pub never : Row
never = record { rel = Lt; pairs = []; constant = pos 0 }

-- of a part that is to show that the rows have no common solution
abbrev pub false_fault : List Row → Part → Option CheckFault
false_fault rows part = if int_eq part.k (pos 0) then check_fault rows never part else Some Form

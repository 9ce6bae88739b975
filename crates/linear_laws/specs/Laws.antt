-- The statements of the laws of rows that are longer than a line.
use Rattle.std.specs.Prelude.{◌≡◌, ℕ, List, Contains, All, true, false, ◌↔◌}
use Rattle.clp_model.specs.Values.{Valuation}
use Rattle.clp_model.specs.Clauses.{Row, RowHolds}
use Rattle.clp_model.specs.declared.sort.Rel.TheVariants.{Eq}
use Rattle.linear_model.specs.Forms.{IsRising}
use Rattle.linear_model.specs.Changes.{at_most, flipped}
use Rattle.linear_model.specs.Elimination.{SameBut, has, elimination}
use Rattle.linear_model.specs.Certificates.{Part, Shows, Entails}

-- the valuation under which v stands for what f v stands for under u
abbrev pub carried : (ℕ → ℕ) → Valuation → Valuation
carried f u = record { whole = u.whole; positive = u.positive; number = λ v. u.number (f v); value = λ v. u.value (f v) }

-- an equation holds exactly where its two halves hold
abbrev pub EquationIsTwoHalves : Type 0
EquationIsTwoHalves = (u : Valuation) (r : Row) → r.rel ≡ Eq → RowHolds u r ↔ (RowHolds u (at_most r) × RowHolds u (at_most (flipped r)))

-- a valuation makes the new rows hold exactly where one that differs from it at x alone makes the old rows hold
abbrev pub EliminationIsExact : Type 0
EliminationIsExact =
    (x : ℕ) (rows : List Row) (u : Valuation)
    → All (RowHolds u) (elimination x rows) ↔ ((w : Valuation) × SameBut x u w × All (RowHolds w) rows)

-- no new row has x
abbrev pub VariableIsGone : Type 0
VariableIsGone = (x : ℕ) (rows : List Row) (r : Row) → Contains (elimination x rows) r → has x r ≡ false

-- a new row has only variables that some old row has
abbrev pub NoVariableComes : Type 0
NoVariableComes =
    (x : ℕ) (rows : List Row) (r : Row) (v : ℕ) → Contains (elimination x rows) r → has v r ≡ true
    → (s : Row) × Contains rows s × (has v s ≡ true)

-- from rows whose variables rise come rows whose variables rise
abbrev pub EliminationRises : Type 0
EliminationRises =
    (x : ℕ) (rows : List Row) → ((r : Row) → Contains rows r → IsRising r.pairs)
    → (r : Row) → Contains (elimination x rows) r → IsRising r.pairs

-- two parts that show the halves of an equation show the equation
abbrev pub EquationIsEntailed : Type 0
EquationIsEntailed =
    (rows : List Row) (target : Row) (p q : Part) → target.rel ≡ Eq
    → Shows rows (at_most target) p → Shows rows (at_most (flipped target)) q → Entails rows target

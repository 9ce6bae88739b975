-- The laws of computing with fractions.
use Rattle.std.specs.Prelude.{◌≡◌, ◌≢◌, ◌<◌, ◌*◌, ℕ, ℤ, pos, neg_ℤ, ◌+ℤ◌, ◌*ℤ◌}
use Rattle.clp_rationals.specs.Fraction.{Fraction, IsLowest, IsOver}
use Rattle.frac_model.specs.Reduced.{reduced, sum, difference, product, quotient}

-- n over d, reduced, is in lowest terms and stands for the same rational
abbrev pub ReducedIsLowest : Type 0
ReducedIsLowest = (n : ℤ) (d : ℕ) → 0 < d → IsLowest (reduced n d) × IsOver n d (reduced n d)

-- f stands for p over q, and g for r over s
abbrev pub Stand : Fraction → ℤ → ℕ → Fraction → ℤ → ℕ → Type 0
Stand f p q g r s = (0 < f.den) × (0 < g.den) × IsOver p q f × IsOver r s g

-- each result stands for the result on the rationals
abbrev pub SumIsExact : Type 0
SumIsExact = (f g : Fraction) (p r : ℤ) (q s : ℕ) → Stand f p q g r s → IsOver (p *ℤ pos s +ℤ r *ℤ pos q) (q * s) (sum f g)

abbrev pub DifferenceIsExact : Type 0
DifferenceIsExact = (f g : Fraction) (p r : ℤ) (q s : ℕ) → Stand f p q g r s → IsOver (p *ℤ pos s +ℤ neg_ℤ (r *ℤ pos q)) (q * s) (difference f g)

abbrev pub ProductIsExact : Type 0
ProductIsExact = (f g : Fraction) (p r : ℤ) (q s : ℕ) → Stand f p q g r s → IsOver (p *ℤ r) (q * s) (product f g)

-- order and grouping change nothing
abbrev pub SumCommutes : Type 0
SumCommutes = (f g : Fraction) → sum f g ≡ sum g f

abbrev pub ProductCommutes : Type 0
ProductCommutes = (f g : Fraction) → product f g ≡ product g f

abbrev pub SumAssociates : Type 0
SumAssociates = (f g h : Fraction) → IsLowest f → IsLowest g → IsLowest h → sum (sum f g) h ≡ sum f (sum g h)

abbrev pub ProductAssociates : Type 0
ProductAssociates = (f g h : Fraction) → IsLowest f → IsLowest g → IsLowest h → product (product f g) h ≡ product f (product g h)

abbrev pub ProductDistributes : Type 0
ProductDistributes = (f g h : Fraction) → IsLowest f → IsLowest g → IsLowest h → product f (sum g h) ≡ sum (product f g) (product f h)

-- a difference undoes a sum, and a sum a difference
abbrev pub DifferenceUndoesSum : Type 0
DifferenceUndoesSum = (f g : Fraction) → IsLowest f → IsLowest g → (difference (sum f g) g ≡ f) × (sum (difference f g) g ≡ f)

-- a quotient by what isn't 0 undoes a product, and a product the quotient
abbrev pub QuotientUndoesProduct : Type 0
QuotientUndoesProduct = (f g : Fraction) → IsLowest f → IsLowest g → g.num ≢ pos 0 → (quotient (product f g) g ≡ f) × (product (quotient f g) g ≡ f)
